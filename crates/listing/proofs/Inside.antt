-- What is read at a place, of tokens that are of the form: which sequences stand in a branch or a loop, where, and what is behind them.
use mathlib.Core.Path.{◌≡◌, refl, sym, ap, subst, ◌∙◌}
use mathlib.Core.Bool.{Bool, true, false, cond, true≢false}
use mathlib.Core.List.{List, [], ◌∷◌}
use Prim.Native.Nat.{ℕ, zero, suc, ◌+◌, ◌-◌, ◌≤◌, ◌<◌}
use native.Mathlib.Nat.{le_refl}
use native.Mathlib.Numerals.{add-one}
use native.Mathlib.Omega.{arith}
use lib.Dec.{eqb, ltb}
use lib.ListN.{length, get_or, drop, length-drop, drop_of_length-le}
use lib.Seq.{drop-cons}
use borrow.Author.Tests.{eqb-true, ltb-true, ltb-false}
use Rattle.basics.proofs.Bools.{not_left}
use Rattle.rules.specs.Refusals.{outside}
use Rattle.listing_form.specs.Listing.{Listing, end, access, branch, loop, followed_by}
use Rattle.listing_form.specs.Reading.{Reading, found, broken, Kind, an_access, a_branch, a_loop, nothing, kind_of, and_then, closed, item, onwards, sequence_in, is_broken, listing_in, place_in}
use Rattle.listing_form.specs.Counting.{begins_item, size_of}
use Rattle.listing.specs.Writing.{sequence_at, item_at, branch_at, loop_at}
use Rattle.listing_form.proofs.Reading.{Holds, Said, rest, in_said, sequence_end, sequence_next, reads, Stops, item_short}
use Rattle.listing_form.proofs.Counts.{seen, item_here, said_here, begins_inside, loop_at_lem}

-- ---- what was found was found step by step

-- what is found first, and what goes on with it
pub record Steps (r : Reading) (k : Listing → List ℕ → Reading) (i : Listing) (us : List ℕ) : Type 0 where
  pub first : Listing
  pub behind : List ℕ
  pub is : r ≡ found first behind
  pub on : k first behind ≡ found i us

then_found : (r : Reading) (k : Listing → List ℕ → Reading) (i : Listing) (us : List ℕ) → and_then r k ≡ found i us → Steps r k i us
then_found broken k i us e = let z : ◌≡◌ {A = ℕ} 0 1 = cc in absurd (omega arith)
then_found (found s ts) k i us e = record { first = s; behind = ts; is = refl; on = e }

closed_found : (t : ℕ) (vs : List ℕ) (k : List ℕ → Reading) (i : Listing) (us : List ℕ) → closed t vs k ≡ found i us → (ws : List ℕ) × (vs ≡ t ∷ ws) × (k ws ≡ found i us)
closed_found t [] k i us e = let z : ◌≡◌ {A = ℕ} 0 1 = cc in absurd (omega arith)
closed_found t (v ∷ vs) k i us e = go (eqb v t) refl e
  where
    go : (b : Bool) → eqb v t ≡ b → cond b (k vs) broken ≡ found i us → (ws : List ℕ) × (v ∷ vs ≡ t ∷ ws) × (k ws ≡ found i us)
    go true h f = (vs, ap (◌∷ vs) (eqb-true v t h), f)
    go false h f = let z : ◌≡◌ {A = ℕ} 0 1 = cc in absurd (omega arith)

pub found_is : (r : Reading) → is_broken r ≡ false → (s : Listing) × (us : List ℕ) × (r ≡ found s us)
found_is broken e = absurd (true≢false e)
found_is (found s us) e = (s, us, refl)

-- ---- a sequence ends where no item begins, so that it may nest deeper than it does

stops_by : (n d : ℕ) (ts : List ℕ) → length ts ≤ n → (s : Listing) (us : List ℕ) → sequence_in d ts ≡ found s us → Stops us
stops_by zero d [] l s us e = let none : [] ≡ us = cc (sequence_end d) in subst Stops none tt
stops_by zero d (t ∷ ts) l s us e = absurd (omega arith)
stops_by (suc n) d [] l s us e = let none : [] ≡ us = cc (sequence_end d) in subst Stops none tt
stops_by (suc n) d (t ∷ ts) l s us e = go (kind_of t) refl (sym (sequence_next d t ts) ∙ e) (λ us m. stops_by n d us (omega (arith, l, m)))
  where
    further : (k : Kind) → rest sequence_in d k ts ≡ found s us
        → ((vs : List ℕ) → length vs ≤ length ts → (s : Listing) (us : List ℕ) → sequence_in d vs ≡ found s us → Stops us) → Stops us
    further k h ih =
        let S = then_found (item sequence_in d k ts) (λ i us. and_then (sequence_in d us) (λ s vs. found (followed_by i s) vs)) s us h in
        let T = then_found (sequence_in d S.behind) (λ u vs. found (followed_by S.first u) vs) s us S.on in
        let short : length S.behind ≤ length ts = subst (Holds (λ i us. length us ≤ length ts)) S.is (item_short sequence_in sequence_in in_said d k ts) in
        let last : T.behind ≡ us = cc T.on in
        subst Stops last (ih S.behind short T.first T.behind T.is)

    go : (k : Kind) → kind_of t ≡ k → onwards k (found end (t ∷ ts)) (rest sequence_in d k ts) ≡ found s us
        → ((vs : List ℕ) → length vs ≤ length ts → (s : Listing) (us : List ℕ) → sequence_in d vs ≡ found s us → Stops us) → Stops us
    go an_access f h ih = further an_access h ih
    go a_branch f h ih = further a_branch h ih
    go a_loop f h ih = further a_loop h ih
    go nothing f h ih = let same : t ∷ ts ≡ us = cc in subst Stops same f

deeper : (d e : ℕ) (ts : List ℕ) (s : Listing) (us : List ℕ) → d ≤ e → sequence_in d ts ≡ found s us → sequence_in e ts ≡ found s us
deeper d e ts s us l h =
    let P : Said d ts s us = subst (Holds (Said d ts)) h (in_said d ts) in
    ap (sequence_in e) P.listed ∙ reads s e us (omega (arith, P.deep, l)) P.rounds (stops_by (length ts) d ts (le_refl _) s us h)

-- ---- from a place to a place

-- what is read from place a on is the listing s, and what is behind it begins at place p
pub record Inside (ts : List ℕ) (a : ℕ) (r : Reading) (s : Listing) (p : ℕ) : Type 0 where
  pub is : r ≡ found s (drop p ts)
  pub from : a ≤ p
  pub to : p ≤ length ts
  pub place : place_in (length ts) r ≡ p

inside : (ts : List ℕ) (a d : ℕ) → a ≤ length ts → (r : Reading) → Holds (Said d (drop a ts)) r → (s : Listing) (us : List ℕ) → r ≡ found s us
    → Inside ts a r s (length ts - length us) × (us ≡ drop (length ts - length us) ts)
inside ts a d l r h s us e =
    let S = seen ts a d l (found s us) (subst (Holds (Said d (drop a ts))) e h) _ refl (size_of s (length ts - length us)) refl in
    let tail : us ≡ drop (length ts - length us) ts = cc S.is in
    (record { is = e ∙ ap (found s) tail; from = S.from; to = S.to; place = ap (place_in (length ts)) e }, tail)

-- a sequence read at a place, at most d deep, and so at most 8 deep
pub sequence_inside : (ts : List ℕ) (a d : ℕ) → a ≤ length ts → d ≤ 8 → (s : Listing) (us : List ℕ) → sequence_in d (drop a ts) ≡ found s us
    → Inside ts a (sequence_at ts a) s (length ts - length us) × (us ≡ drop (length ts - length us) ts)
sequence_inside ts a d l m s us e = inside ts a 8 l (sequence_at ts a) (in_said 8 (drop a ts)) s us (deeper d 8 (drop a ts) s us m e)

-- a token that stands at the front of what begins at a place
token_at : (ts : List ℕ) (p t : ℕ) (ws : List ℕ) → drop p ts ≡ t ∷ ws → (p < length ts) × (get_or ts p 0 ≡ t) × (ws ≡ drop (p + 1) ts)
token_at ts p t ws e = go (ltb p (length ts)) refl
  where
    go : (b : Bool) → ltb p (length ts) ≡ b → (p < length ts) × (get_or ts p 0 ≡ t) × (ws ≡ drop (p + 1) ts)
    go true h =
        let l = ltb-true p (length ts) h in
        let both : get_or ts p 0 ∷ drop (suc p) ts ≡ t ∷ ws = sym (drop-cons ts p 0 l) ∙ e in
        let tail : ws ≡ drop (suc p) ts = cc in
        (l, cc, tail ∙ ap (λ q. drop q ts) (sym (add-one p)))
    go false h =
        let none : drop p ts ≡ [] = drop_of_length-le ts {i = p} (omega (arith, ltb-false p (length ts) h)) in
        let z : ◌≡◌ {A = ℕ} 0 1 = cc in absurd (omega arith)

-- ---- the items of a sequence

-- an item at place a, and the sequence behind it, at place p
pub record Next (ts : List ℕ) (a : ℕ) : Type 0 where
  pub good : is_broken (item_at ts a) ≡ false
  pub inside : a < length ts
  pub further : a < place_in (length ts) (item_at ts a)
  pub place : place_in (length ts) (item_at ts a) ≤ length ts
  pub rest_good : is_broken (sequence_at ts (place_in (length ts) (item_at ts a))) ≡ false
  pub rest_place : place_in (length ts) (sequence_at ts (place_in (length ts) (item_at ts a))) ≡ place_in (length ts) (sequence_at ts a)
  pub joined : listing_in (sequence_at ts a) ≡ followed_by (listing_in (item_at ts a)) (listing_in (sequence_at ts (place_in (length ts) (item_at ts a))))

pub next_item : (ts : List ℕ) (a : ℕ) → true ≡ begins_item (kind_of (get_or ts a 0)) → is_broken (sequence_at ts a) ≡ false → Next ts a
next_item ts a b g =
    let (s, us, e) = found_is (sequence_at ts a) g in
    let S = then_found (item_at ts a) (λ i us. and_then (sequence_in 8 us) (λ s vs. found (followed_by i s) vs)) s us (sym (item_here ts a 8 b) ∙ e) in
    let T = then_found (sequence_in 8 S.behind) (λ u vs. found (followed_by S.first u) vs) s us S.on in
    let l = begins_inside ts a 8 b in
    let (I, tail) = inside ts a 8 (omega (arith, l)) (item_at ts a) (said_here ts a 8 b) S.first S.behind S.is in
    let short : length S.behind ≤ length (drop (a + 1) ts) = subst (Holds (λ i us. length us ≤ length (drop (a + 1) ts))) S.is (item_short sequence_in sequence_in in_said 8 (kind_of (get_or ts a 0)) (drop (a + 1) ts)) in
    let there : sequence_at ts (place_in (length ts) (item_at ts a)) ≡ found T.first T.behind = ap (λ p. sequence_at ts p) I.place ∙ ap (sequence_in 8) (sym tail) ∙ T.is in
    let last : T.behind ≡ us = cc T.on in
    let all : s ≡ followed_by S.first T.first = cc T.on in
    record {
      good = ap is_broken S.is;
      inside = l;
      further = rw I.place (omega (arith, short, l, length-drop (a + 1) ts));
      place = rw I.place I.to;
      rest_good = ap is_broken there;
      rest_place = ap (place_in (length ts)) there ∙ ap (λ us. length ts - length us) last ∙ sym (ap (place_in (length ts)) e);
      joined = ap listing_in e ∙ all ∙ ap (λ i. followed_by i T.first) (sym (ap listing_in S.is)) ∙ ap (followed_by (listing_in (item_at ts a))) (sym (ap listing_in there));
    }

-- ---- what is in an item

pub record InAccess (ts : List ℕ) (a : ℕ) : Type 0 where
  pub block : a + 1 < length ts
  pub listing : listing_in (item_at ts a) ≡ access (get_or ts (a + 1) 0) end
  pub place : place_in (length ts) (item_at ts a) ≡ a + 2

pub in_access : (ts : List ℕ) (a : ℕ) → get_or ts a 0 ≡ 1 → is_broken (item_at ts a) ≡ false → InAccess ts a
unfolding kind_of item
in_access ts a e g = go (ltb (a + 1) (length ts)) refl
  where
    kind : item_at ts a ≡ item sequence_in 8 an_access (drop (a + 1) ts)
    kind = rw e

    go : (b : Bool) → ltb (a + 1) (length ts) ≡ b → InAccess ts a
    go true h =
        let l = ltb-true (a + 1) (length ts) h in
        let is : item_at ts a ≡ found (access (get_or ts (a + 1) 0) end) (drop (suc (a + 1)) ts) = kind ∙ rw (drop-cons ts (a + 1) 0 l) in
        record { block = l; listing = ap listing_in is; place = ap (place_in (length ts)) is ∙ rw (length-drop (suc (a + 1)) ts) (omega arith) }
    go false h =
        let none : item_at ts a ≡ broken = kind ∙ rw (drop_of_length-le ts {i = a + 1} (omega (arith, ltb-false (a + 1) (length ts) h))) in
        absurd (true≢false (sym (ap is_broken none) ∙ g))

-- the place behind a sequence at a place
abbrev pub end_of : List ℕ → ℕ → ℕ
end_of ts p = place_in (length ts) (sequence_at ts p)

pub record InBranch (ts : List ℕ) (a : ℕ) : Type 0 where
  pub left_good : is_broken (sequence_at ts (a + 1)) ≡ false
  pub left_from : a + 1 ≤ end_of ts (a + 1)
  pub left_to_fact : end_of ts (a + 1) < length ts
  pub right_good : is_broken (sequence_at ts (end_of ts (a + 1) + 1)) ≡ false
  pub right_from : end_of ts (a + 1) + 1 ≤ end_of ts (end_of ts (a + 1) + 1)
  pub right_to_fact : end_of ts (end_of ts (a + 1) + 1) < length ts
  pub listing : listing_in (branch_at ts a) ≡ branch (listing_in (sequence_at ts (a + 1))) (listing_in (sequence_at ts (end_of ts (a + 1) + 1))) end
  pub place : place_in (length ts) (branch_at ts a) ≡ end_of ts (end_of ts (a + 1) + 1) + 1

-- the place behind what was found up to a place is that place
place_is : (ts : List ℕ) (r : Reading) (s : Listing) (p : ℕ) → p ≤ length ts → r ≡ found s (drop p ts) → place_in (length ts) r ≡ p
place_is ts r s p l e = ap (place_in (length ts)) e ∙ rw (length-drop p ts) (omega arith)

module _ (ts : List ℕ) (a q x : ℕ) (l r : Listing) (e : sequence_at ts (a + 1) ≡ found l (drop q ts)) (f : sequence_at ts (q + 1) ≡ found r (drop x ts))
    (from : a + 1 ≤ q) (to : q < length ts) (on : q + 1 ≤ x) (end-to : x < length ts) (g : branch_at ts a ≡ found (branch l r end) (drop (x + 1) ts)) where
  left_end_lem : end_of ts (a + 1) ≡ q
  left_end_lem = place_is ts (sequence_at ts (a + 1)) l q (omega arith) e

  right_end_lem : end_of ts (q + 1) ≡ x
  right_end_lem = place_is ts (sequence_at ts (q + 1)) r x (omega arith) f

  branch_made : InBranch ts a
  branch_made =
      record {
        left_good = ap is_broken e;
        left_from = rw left_end_lem from;
        left_to_fact = rw left_end_lem to;
        right_good = rw left_end_lem (ap is_broken f);
        right_from = rw (left_end_lem, right_end_lem) on;
        right_to_fact = rw (left_end_lem, right_end_lem) end-to;
        listing = rw (left_end_lem, g, e, f);
        place = rw (left_end_lem, right_end_lem) (place_is ts (branch_at ts a) (branch l r end) (x + 1) (omega arith) g);
      }

pub in_branch : (ts : List ℕ) (a : ℕ) → a < length ts → is_broken (branch_at ts a) ≡ false → InBranch ts a
unfolding item
in_branch ts a l g =
    let (i, us, e) = found_is (branch_at ts a) g in
    let S = then_found (sequence_in 7 (drop (a + 1) ts)) _ i us e in
    let (ws, f, on) = closed_found 3 S.behind _ i us S.on in
    let (I, tail) = sequence_inside ts (a + 1) 7 (omega (arith, l)) (omega arith) S.first S.behind S.is in
    let (m, three, next) = token_at ts (length ts - length S.behind) 3 ws (sym tail ∙ f) in
    let T = then_found (sequence_in 7 ws) _ i us on in
    let (xs, h, done) = closed_found 4 T.behind _ i us T.on in
    let (J, tail2) = sequence_inside ts (length ts - length S.behind + 1) 7 (omega (arith, m)) (omega arith) T.first T.behind (ap (sequence_in 7) (sym next) ∙ T.is) in
    let (o, four, last) = token_at ts (length ts - length T.behind) 4 xs (sym tail2 ∙ h) in
    branch_made ts a (length ts - length S.behind) (length ts - length T.behind) S.first T.first I.is J.is I.from m J.from o
    (e ∙ sym done ∙ ap (found (branch S.first T.first end)) last)

pub record InLoop (ts : List ℕ) (a : ℕ) : Type 0 where
  pub count_inside : a + 1 < length ts
  pub some : 1 ≤ get_or ts (a + 1) 0
  pub body_good : is_broken (sequence_at ts (a + 2)) ≡ false
  pub body_from : a + 2 ≤ end_of ts (a + 2)
  pub body_to : end_of ts (a + 2) < length ts
  pub listing : listing_in (loop_at ts a) ≡ loop (get_or ts (a + 1) 0) (listing_in (sequence_at ts (a + 2))) end
  pub place : place_in (length ts) (loop_at ts a) ≡ end_of ts (a + 2) + 1

module _ (ts : List ℕ) (a q : ℕ) (l : Listing) (c : a + 1 < length ts) (some : 1 ≤ get_or ts (a + 1) 0) (e : sequence_at ts (a + 2) ≡ found l (drop q ts))
    (from : a + 2 ≤ q) (to : q < length ts) (g : loop_at ts a ≡ found (loop (get_or ts (a + 1) 0) l end) (drop (q + 1) ts)) where
  body_end : end_of ts (a + 2) ≡ q
  body_end = place_is ts (sequence_at ts (a + 2)) l q (omega arith) e

  loop_made : InLoop ts a
  loop_made =
      record {
        count_inside = c;
        some = some;
        body_good = ap is_broken e;
        body_from = rw body_end from;
        body_to = rw body_end to;
        listing = rw (g, e);
        place = rw body_end (place_is ts (loop_at ts a) (loop (get_or ts (a + 1) 0) l end) (q + 1) (omega arith) g);
      }

no_tokens : item sequence_in 8 a_loop [] ≡ broken
unfolding item
no_tokens = refl

-- the sequence that a loop runs n times, closed by its token
abbrev runs_of : ℕ → List ℕ → Reading
runs_of n us = and_then (sequence_in 7 us) (λ l us. closed 6 us (λ us. found (loop n l end) us))

pub in_loop : (ts : List ℕ) (a : ℕ) → a < length ts → is_broken (loop_at ts a) ≡ false → InLoop ts a
in_loop ts a l g = go (ltb (a + 1) (length ts)) refl
  where
    two : a + 1 + 1 ≡ a + 2
    two = omega arith

    made : a + 1 < length ts → (b : Bool) → outside 1 64 (get_or ts (a + 1) 0) ≡ b → loop_at ts a ≡ cond b broken (runs_of (get_or ts (a + 1) 0) (drop (a + 2) ts)) → InLoop ts a
    made c true h is = absurd (true≢false (sym (ap is_broken is) ∙ g))
    made c false h is =
        let some : 1 ≤ get_or ts (a + 1) 0 = omega (arith, ltb-false (get_or ts (a + 1) 0) 1 (not_left (ltb (get_or ts (a + 1) 0) 1) _ h)) in
        let (i, us, e) = found_is (loop_at ts a) g in
        let S = then_found (sequence_in 7 (drop (a + 2) ts)) _ i us (sym is ∙ e) in
        let (ws, f, done) = closed_found 6 S.behind _ i us S.on in
        let (I, tail) = sequence_inside ts (a + 2) 7 (omega (arith, c)) (omega arith) S.first S.behind S.is in
        let (m, six, last) = token_at ts (length ts - length S.behind) 6 ws (sym tail ∙ f) in
        loop_made ts a (length ts - length S.behind) S.first c some I.is I.from m
        (e ∙ sym done ∙ ap (found (loop (get_or ts (a + 1) 0) S.first end)) last)

    go : (b : Bool) → ltb (a + 1) (length ts) ≡ b → InLoop ts a
    go true h =
        let c = ltb-true (a + 1) (length ts) h in
        made c (outside 1 64 (get_or ts (a + 1) 0)) refl
        (loop_at_lem ts (a + 1) 7 c ∙ ap (λ p. cond (outside 1 64 (get_or ts (a + 1) 0)) broken (runs_of (get_or ts (a + 1) 0) (drop p ts))) two)
    go false h = absurd (true≢false (sym (ap is_broken (none (ltb-false (a + 1) (length ts) h))) ∙ g))
      where
        none : length ts ≤ a + 1 → loop_at ts a ≡ broken
        none m = ap (item sequence_in 8 a_loop) (drop_of_length-le ts {i = a + 1} m) ∙ no_tokens
