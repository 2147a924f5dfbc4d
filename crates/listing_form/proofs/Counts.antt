-- The laws of the first pass: what a count says of the tokens at a place, and what the counts of parts make of the whole.
use mathlib.Core.Path.{◌≡◌, refl, sym, ap, subst, ◌∙◌}
use mathlib.Core.Bool.{Bool, true, false, cond, true≢false}
use mathlib.Core.List.{List, [], ◌∷◌}
use Prim.Native.Nat.{ℕ, zero, suc, ◌+◌, ◌-◌, ◌*◌, ◌≤◌, ◌<◌}
use native.Mathlib.Nat.{zero-mul, suc-mul, mul-le-mul_left}
use native.Mathlib.Numerals.{add-one}
use native.Mathlib.Omega.{arith}
use lib.Dec.{eqb, ltb}
use lib.ListN.{length, get_or, drop, length-append, length-drop, get_or-eq_default, drop_of_length-le}
use lib.Seq.{drop-cons, drop-drop, drop_at}
use borrow.Author.Tests.{eq-eqb, ne_eqb, lt-ltb, le-ltb, ltb-true, ltb-false}
use Rattle.std.specs.Prelude.{Option, Some, None}
use Rattle.basics.proofs.Bools.{or_right, neither}
use Rattle.rules.specs.Refusals.{outside}
use Rattle.listing_form.specs.declared.Size.{Size}
use Rattle.listing_form.specs.Listing.{Listing, end, access, branch, loop, tokens, followed_by}
use Rattle.listing_form.specs.Reading.{Reading, found, broken, Kind, an_access, a_branch, a_loop, nothing, kind_of, and_then, closed, item, onwards, sequence_in, to_the_end, listing_of}
use Rattle.listing_form.specs.Reading as Read
use Rattle.listing_form.specs.Counting.{nodes_in, accesses_in, capped, begins_item, behind, size_of, count_of}
use Rattle.listing_form.proofs.Reading.{Holds, Said, rest, in_said, said_short, sequence_end, sequence_next, item_short, item_said, token_of, kind_token}

-- ---- sums and products that stop

pub product_none : (n a : ℕ) → n ≡ 0 → 0 ≡ capped (n * a)
product_none n a e = rw (e, zero-mul a)

pub product_large : (n a : ℕ) → (n ≡ 0 → ⊥) → 4097 ≤ a → 4097 ≡ capped (n * a)
product_large zero a z l = absurd (z refl)
product_large (suc n) a z l = omega (arith, suc-mul n a)

-- what stopped once stops again
times_capped : (n a : ℕ) → capped (n * capped a) ≡ capped (n * a)
times_capped zero a = rw (zero-mul (capped a), zero-mul a)
times_capped (suc n) a = go (ltb a 4097) refl
  where
    go : (b : Bool) → ltb a 4097 ≡ b → capped (suc n * capped a) ≡ capped (suc n * a)
    go true e = let same : capped a ≡ a = omega (arith, ltb-true a 4097 e) in rw same
    go false e = let large : capped a ≡ 4097 = omega (arith, ltb-false a 4097 e) in rw large (omega (arith, suc-mul n 4097, suc-mul n a, ltb-false a 4097 e))

rounds_capped : (n m a : ℕ) → a ≡ capped (n * capped m) → a ≡ capped (n * m + 0)
rounds_capped n m a e = omega (arith, e, times_capped n m)

pub product_fits : (n a : ℕ) → n < 4294967296 → a < 4097 → n * a < 18446744073709551616
product_fits n a h l = let few : a ≤ 4096 = omega arith in omega (arith, mul-le-mul_left n few)

-- ---- what begins an item

pub begins_access : (f t : ℕ) → f ≡ t → f ≡ 1 → true ≡ begins_item (kind_of t)
unfolding kind_of
begins_access f t e h = rw (← e, h)

pub begins_branch : (f t : ℕ) → f ≡ t → f ≡ 2 → true ≡ begins_item (kind_of t)
unfolding kind_of
begins_branch f t e h = rw (← e, h)

pub begins_loop : (f t : ℕ) → f ≡ t → (f ≡ 1 → ⊥) → (f ≡ 2 → ⊥) → eqb f 5 ≡ begins_item (kind_of t)
unfolding kind_of
begins_loop f t e a b = rw (← e, ne_eqb f 1 a, ne_eqb f 2 b) (go (eqb f 5))
  where
    go : (c : Bool) → c ≡ begins_item (cond c a_loop nothing)
    go true = refl
    go false = refl

-- ---- a token that closes

closed_at : (t : ℕ) (ts : List ℕ) (p : ℕ) (k : List ℕ → Reading) → p < length ts → get_or ts p 0 ≡ t → closed t (drop p ts) k ≡ k (drop (p + 1) ts)
closed_at t ts p k l e = rw (drop-cons ts p 0 l, eq-eqb (get_or ts p 0) t e, add-one p)

-- where a token stands that is not 0, the place is not past the end
pub in_tokens : (ts : List ℕ) (p : ℕ) → (get_or ts p 0 ≡ 0 → ⊥) → p < length ts
in_tokens ts p f = go (ltb p (length ts)) refl
  where
    go : (b : Bool) → ltb p (length ts) ≡ b → p < length ts
    go true e = ltb-true p (length ts) e
    go false e = absurd (f (get_or-eq_default ts 0 (omega (arith, ltb-false p (length ts) e))))

closed_off : (t : ℕ) (ts : List ℕ) (p : ℕ) (k : List ℕ → Reading) → (get_or ts p 0 ≡ t → ⊥) → closed t (drop p ts) k ≡ broken
closed_off t ts p k f = go (ltb p (length ts)) refl
  where
    go : (b : Bool) → ltb p (length ts) ≡ b → closed t (drop p ts) k ≡ broken
    go true e = rw (drop-cons ts p 0 (ltb-true p (length ts) e), ne_eqb (get_or ts p 0) t f)
    go false e = rw (drop_of_length-le ts {i = p} (omega (arith, ltb-false p (length ts) e)))

-- ---- what a count says

-- what was read from a place on is of the form: a listing, whose size z is, with the place behind it
pub record Seen (ts : List ℕ) (at : ℕ) (r : Reading) (z : Size) : Type 0 where
  pub read : Listing
  pub is : r ≡ found read (drop z.at ts)
  pub from : at ≤ z.at
  pub to : z.at ≤ length ts
  pub nodes : z.nodes ≡ capped (nodes_in read)
  pub accesses : z.accesses ≡ capped (accesses_in read)

pub seen : (ts : List ℕ) (at d : ℕ) → at ≤ length ts → (r : Reading) → Holds (Said d (drop at ts)) r → (c : Option Size) → c ≡ count_of (length ts) r
    → (z : Size) → c ≡ Some z → Seen ts at r z
seen ts at d l broken h c e z f = let x : ◌≡◌ {A = ℕ} 0 1 = cc in absurd (omega arith)
seen ts at d l (found s us) h c e z f =
    let k = length (tokens s) in
    let same : z ≡ size_of s (length ts - length us) = cc in
    let long : length ts - at ≡ length (tokens s) + length us = sym (length-drop at ts) ∙ ap length h.listed ∙ length-append (tokens s) us in
    let place : length ts - length us ≡ at + length (tokens s) = omega arith in
    let tail : us ≡ drop (at + length (tokens s)) ts = sym (drop_at (tokens s) us (length (tokens s)) refl) ∙ ap (drop (length (tokens s))) (sym h.listed) ∙ drop-drop (length (tokens s)) at ts in
    record {
      read = s;
      is = ap (found s) (tail ∙ ap (λ p. drop p ts) (sym (ap (λ z. z.at) same ∙ place)));
      from = omega (arith, ap (λ z. z.at) same);
      to = omega (arith, ap (λ z. z.at) same);
      nodes = ap (λ z. z.nodes) same;
      accesses = ap (λ z. z.accesses) same;
    }

pub unseen : (n : ℕ) (r : Reading) (c : Option Size) → c ≡ count_of n r → c ≡ None → r ≡ broken
unseen n broken c e f = refl
unseen n (found s us) c e f = let x : ◌≡◌ {A = ℕ} 0 1 = cc in absurd (omega arith)

-- a sequence
abbrev pub SeenSequence : List ℕ → ℕ → ℕ → Size → Type 0
SeenSequence ts at d z = Seen ts at (sequence_in d (drop at ts)) z

pub seen_sequence : (ts : List ℕ) (at d : ℕ) → at ≤ length ts → (c : Option Size) → c ≡ count_of (length ts) (sequence_in d (drop at ts)) → (z : Size) → c ≡ Some z → SeenSequence ts at d z
seen_sequence ts at d l c e z f = seen ts at d l (sequence_in d (drop at ts)) (in_said d (drop at ts)) c e z f

-- a size, made of what is behind a place that is not past the end
size_at : (ts : List ℕ) (p : ℕ) (s : Listing) (a b : ℕ) → p ≤ length ts → a ≡ capped (nodes_in s) → b ≡ capped (accesses_in s)
    → Some (record { at = p; nodes = a; accesses = b }) ≡ count_of (length ts) (found s (drop p ts))
size_at ts p s a b l e f = rw (e, f, length-drop p ts, back)
  where
    back : length ts - (length ts - p) ≡ p
    back = omega arith

-- ---- an access

module _ (ts : List ℕ) (at : ℕ) (l : at < length ts) where
  pub access_short : length ts - at < 2 → None ≡ count_of (length ts) (item sequence_in 0 an_access (drop (at + 1) ts))
  unfolding item
  access_short h = rw (drop_of_length-le ts {i = at + 1} (omega arith))

  pub access_long : 2 ≤ length ts - at → Some (record { at = at + 2; nodes = 0; accesses = 1 }) ≡ count_of (length ts) (item sequence_in 0 an_access (drop (at + 1) ts))
  unfolding item nodes_in accesses_in
  access_long h =
      size_at ts (at + 2) (access (get_or ts (at + 1) 0) end) 0 1 (omega arith) refl refl
      ∙ ap (λ us. count_of (length ts) (item sequence_in 0 an_access us)) (sym (drop-cons ts (at + 1) 0 (omega arith) ∙ ap (λ p. get_or ts (at + 1) 0 ∷ drop p ts) next))
    where
      next : suc (at + 1) ≡ at + 2
      next = omega arith

-- ---- an item by its first token

access_any : (d : ℕ) (ts : List ℕ) → item sequence_in d an_access ts ≡ item sequence_in 0 an_access ts
unfolding item
access_any d [] = refl
access_any d (b ∷ ts) = refl

module _ (n d t : ℕ) (us : List ℕ) where
  pub item_access : t ≡ 1 → (c : Option Size) → c ≡ count_of n (item sequence_in 0 an_access us) → c ≡ count_of n (item sequence_in d (kind_of t) us)
  unfolding kind_of
  item_access e c h = h ∙ rw (e, access_any d us)

  pub item_flat : (t ≡ 1 → ⊥) → d ≡ 0 → None ≡ count_of n (item sequence_in d (kind_of t) us)
  unfolding kind_of item
  item_flat f z = rw (ne_eqb t 1 f, z) (go (eqb t 2) (eqb t 5))
    where
      go : (a b : Bool) → None ≡ count_of n (item sequence_in 0 (cond a a_branch (cond b a_loop nothing)) us)
      go true b = refl
      go false true = refl
      go false false = refl

  pub item_branch : t ≡ 2 → (d ≡ 0 → ⊥) → (c : Option Size) → c ≡ count_of n (item sequence_in (suc (d - 1)) a_branch us) → c ≡ count_of n (item sequence_in d (kind_of t) us)
  unfolding kind_of
  item_branch e z c h = let back : suc (d - 1) ≡ d = omega arith in rw (e, ← back) h

  pub item_loop : t ≡ 5 → (d ≡ 0 → ⊥) → (c : Option Size) → c ≡ count_of n (item sequence_in (suc (d - 1)) a_loop us) → c ≡ count_of n (item sequence_in d (kind_of t) us)
  unfolding kind_of
  item_loop e z c h = let back : suc (d - 1) ≡ d = omega arith in rw (e, ← back) h

  pub item_none : (t ≡ 1 → ⊥) → (t ≡ 2 → ⊥) → (t ≡ 5 → ⊥) → None ≡ count_of n (item sequence_in d (kind_of t) us)
  unfolding kind_of item
  item_none a b c = rw (ne_eqb t 1 a, ne_eqb t 2 b, ne_eqb t 5 c)

-- ---- a branch, whose arms begin at places

module _ (ts : List ℕ) (at d : ℕ) where
  abbrev branch_there : Option Size
  branch_there = count_of (length ts) (item sequence_in (suc d) a_branch (drop at ts))

  pub no_left : sequence_in d (drop at ts) ≡ broken → None ≡ branch_there
  unfolding item
  no_left e = rw e

  module _ (left : Size) (L : SeenSequence ts at d left) where
    pub left_open : (get_or ts left.at 0 ≡ 3 → ⊥) → None ≡ branch_there
    unfolding item
    left_open f = rw (L.is, closed_off 3 ts left.at _ f)

    pub no_right : get_or ts left.at 0 ≡ 3 → left.at < length ts → sequence_in d (drop (left.at + 1) ts) ≡ broken → None ≡ branch_there
    unfolding item
    no_right e l g = rw (L.is, closed_at 3 ts left.at _ l e, g)

    module _ (e : get_or ts left.at 0 ≡ 3) (l : left.at < length ts) (right : Size) (R : SeenSequence ts (left.at + 1) d right) where
      pub right_open : (get_or ts right.at 0 ≡ 4 → ⊥) → None ≡ branch_there
      unfolding item
      right_open f = rw (L.is, closed_at 3 ts left.at _ l e, R.is, closed_off 4 ts right.at _ f)

      pub branch_there_lem : get_or ts right.at 0 ≡ 4 → right.at < length ts → (a b : ℕ) → a ≡ capped (capped (left.nodes + right.nodes) + 3) → b ≡ capped (left.accesses + right.accesses)
          → Some (record { at = right.at + 1; nodes = a; accesses = b }) ≡ branch_there
      unfolding item nodes_in accesses_in
      branch_there_lem f m a b p q =
          size_at ts (right.at + 1) (branch L.read R.read end) a b (omega arith)
          (omega (arith, p, L.nodes, R.nodes)) (omega (arith, q, L.accesses, R.accesses))
          ∙ rw (L.is, closed_at 3 ts left.at _ l e, R.is, closed_at 4 ts right.at _ m f)

-- ---- a loop, whose count stands at a place

module _ (ts : List ℕ) (at d : ℕ) where
  abbrev loop_there : Option Size
  loop_there = count_of (length ts) (item sequence_in (suc d) a_loop (drop at ts))

  pub loop_at_lem : at < length ts → item sequence_in (suc d) a_loop (drop at ts)
      ≡ cond (outside 1 64 (get_or ts at 0)) broken (and_then (sequence_in d (drop (at + 1) ts)) (λ l us. closed 6 us (λ us. found (loop (get_or ts at 0) l end) us)))
  unfolding item
  loop_at_lem l = rw (drop-cons ts at 0 l, add-one at)

  pub few_rounds : get_or ts at 0 < 1 → None ≡ loop_there
  unfolding item
  few_rounds h = go (ltb at (length ts)) refl
    where
      go : (b : Bool) → ltb at (length ts) ≡ b → None ≡ loop_there
      go true e = rw (loop_at_lem (ltb-true at (length ts) e), lt-ltb (get_or ts at 0) 1 h)
      go false e = rw (drop_of_length-le ts {i = at} (omega (arith, ltb-false at (length ts) e)))

  module _ (l : at < length ts) where
    pub many_rounds : 64 < get_or ts at 0 → None ≡ loop_there
    many_rounds h = rw (loop_at_lem l, or_right (ltb (get_or ts at 0) 1) _ (lt-ltb 64 (get_or ts at 0) h))

    module _ (some : 1 ≤ get_or ts at 0) (few : get_or ts at 0 ≤ 64) where
      inside : outside 1 64 (get_or ts at 0) ≡ false
      inside = neither (ltb (get_or ts at 0) 1) _ (le-ltb (get_or ts at 0) 1 some) (le-ltb 64 (get_or ts at 0) few)

      pub no_body : sequence_in d (drop (at + 1) ts) ≡ broken → None ≡ loop_there
      no_body e = rw (loop_at_lem l, inside, e)

      module _ (body : Size) (B : SeenSequence ts (at + 1) d body) where
        pub body_open : (get_or ts body.at 0 ≡ 6 → ⊥) → None ≡ loop_there
        body_open f = rw (loop_at_lem l, inside, B.is, closed_off 6 ts body.at _ f)

        pub loop_there_lem : get_or ts body.at 0 ≡ 6 → body.at < length ts → (n a b : ℕ) → n ≡ get_or ts at 0 → a ≡ capped (n * body.nodes) → b ≡ capped (n * body.accesses)
            → Some (record { at = body.at + 1; nodes = a; accesses = b }) ≡ loop_there
        unfolding nodes_in accesses_in
        loop_there_lem f m n a b c p q =
            size_at ts (body.at + 1) (loop (get_or ts at 0) B.read end) a b (omega arith)
            (rounds_capped (get_or ts at 0) (nodes_in B.read) a (rw (c, B.nodes) at p))
            (rounds_capped (get_or ts at 0) (accesses_in B.read) b (rw (c, B.accesses) at q))
            ∙ rw (loop_at_lem l, inside, B.is, closed_at 6 ts body.at _ m f)

-- ---- a sequence, item by item

pub join_nodes : (s t : Listing) → nodes_in (followed_by s t) ≡ nodes_in s + nodes_in t
unfolding followed_by nodes_in
join_nodes end t = omega arith
join_nodes (access b s) t = join_nodes s t
join_nodes (branch l r s) t = omega (arith, join_nodes s t)
join_nodes (loop n l s) t = omega (arith, join_nodes s t)

pub join_accesses : (s t : Listing) → accesses_in (followed_by s t) ≡ accesses_in s + accesses_in t
unfolding followed_by accesses_in
join_accesses end t = omega arith
join_accesses (access b s) t = omega (arith, join_accesses s t)
join_accesses (branch l r s) t = omega (arith, join_accesses s t)
join_accesses (loop n l s) t = omega (arith, join_accesses s t)

-- what was read so far, and the rest behind it
abbrev pub on_from : Size → Option Size → Option Size
on_from a None = None
on_from a (Some z) = Some (behind a z)

-- so far and the rest give the whole, which begins at place `at`
pub record Under (ts : List ℕ) (at d : ℕ) (z : Size) : Type 0 where
  pub whole : on_from z (count_of (length ts) (sequence_in d (drop z.at ts))) ≡ count_of (length ts) (sequence_in d (drop at ts))
  pub from : at ≤ z.at
  pub to : z.at ≤ length ts
  pub few_nodes : z.nodes ≤ 4097
  pub few_accesses : z.accesses ≤ 4097

-- at a place where no item begins, and at one where one does
module _ (ts : List ℕ) (p d : ℕ) where
  here : p < length ts → sequence_in d (drop p ts)
      ≡ onwards (kind_of (get_or ts p 0)) (found end (drop p ts)) (rest sequence_in d (kind_of (get_or ts p 0)) (drop (p + 1) ts))
  here l = rw (drop-cons ts p 0 l, add-one p) (sequence_next d (get_or ts p 0) (drop (suc p) ts))

  pub stop_here : false ≡ begins_item (kind_of (get_or ts p 0)) → sequence_in d (drop p ts) ≡ found end (drop p ts)
  stop_here e = go (ltb p (length ts)) refl
    where
      stop : (k : Kind) (x : Reading) (y : Reading) → false ≡ begins_item k → onwards k x y ≡ x
      stop an_access x y h = absurd (true≢false (sym h))
      stop a_branch x y h = absurd (true≢false (sym h))
      stop a_loop x y h = absurd (true≢false (sym h))
      stop nothing x y h = refl

      go : (b : Bool) → ltb p (length ts) ≡ b → sequence_in d (drop p ts) ≡ found end (drop p ts)
      go true f = here (ltb-true p (length ts) f) ∙ stop (kind_of (get_or ts p 0)) _ _ e
      go false f = rw (drop_of_length-le ts {i = p} (omega (arith, ltb-false p (length ts) f))) (sequence_end d)

  module _ (e : true ≡ begins_item (kind_of (get_or ts p 0))) where
    pub begins_inside : p < length ts
    unfolding kind_of
    begins_inside = in_tokens ts p (λ q. true≢false (rw q at e))

    pub item_here : sequence_in d (drop p ts) ≡ rest sequence_in d (kind_of (get_or ts p 0)) (drop (p + 1) ts)
    item_here = here begins_inside ∙ on (kind_of (get_or ts p 0)) _ _ e
      where
        on : (k : Kind) (x : Reading) (y : Reading) → true ≡ begins_item k → onwards k x y ≡ y
        on an_access x y h = refl
        on a_branch x y h = refl
        on a_loop x y h = refl
        on nothing x y h = absurd (true≢false h)

    pub said_here : Holds (Said d (drop p ts)) (item sequence_in d (kind_of (get_or ts p 0)) (drop (p + 1) ts))
    said_here =
        subst (λ us. Holds (Said d us) (item sequence_in d (kind_of (get_or ts p 0)) (drop (p + 1) ts))) front
        (item_said sequence_in in_said d (kind_of (get_or ts p 0)) (drop (p + 1) ts))
      where
        front : token_of (kind_of (get_or ts p 0)) ∷ drop (p + 1) ts ≡ drop p ts
        front =
            ap (◌∷ drop (p + 1) ts) (sym (kind_token (get_or ts p 0) (kind_of (get_or ts p 0)) refl (λ q. true≢false (e ∙ ap begins_item q))))
            ∙ ap (λ q. get_or ts p 0 ∷ drop q ts) (add-one p) ∙ sym (drop-cons ts p 0 begins_inside)

module _ (ts : List ℕ) (at d : ℕ) (z : Size) (inv : Under ts at d z) where
  -- no item begins: all is read
  pub reading_end : false ≡ begins_item (kind_of (get_or ts z.at 0)) → Some z ≡ count_of (length ts) (sequence_in d (drop at ts))
  unfolding nodes_in accesses_in
  reading_end e = same ∙ (rw (stop_here ts z.at d e) at inv.whole)
    where
      same : Some z ≡ on_from z (count_of (length ts) (found end (drop z.at ts)))
      same =
          let a : length ts - length (drop z.at ts) ≡ z.at = omega (arith, length-drop z.at ts, inv.to) in
          let b : capped (z.nodes + capped 0) ≡ z.nodes = omega (arith, inv.few_nodes) in
          let c : capped (z.accesses + capped 0) ≡ z.accesses = omega (arith, inv.few_accesses) in
          rw (a, b, c)

  module _ (e : true ≡ begins_item (kind_of (get_or ts z.at 0))) (c : Option Size)
      (f : c ≡ count_of (length ts) (item sequence_in d (kind_of (get_or ts z.at 0)) (drop (z.at + 1) ts))) where
    -- an item begins that is broken, and so is all
    pub reading_broken : c ≡ None → None ≡ count_of (length ts) (sequence_in d (drop at ts))
    reading_broken g = rw (item_here ts z.at d e, unseen (length ts) (item sequence_in d (kind_of (get_or ts z.at 0)) (drop (z.at + 1) ts)) c f g) at inv.whole

    -- or that is read
    pub reading_next : (next : Size) → c ≡ Some next → (z.at < next.at) × Under ts at d (behind z next)
    reading_next next g =
        let S = seen ts z.at d inv.to _ (said_here ts z.at d e) c f next g in (
          further S,
          record {
            whole = on S (sequence_in d (drop next.at ts)) ∙ (rw (item_here ts z.at d e, S.is) at inv.whole);
            from = omega (arith, inv.from, S.from);
            to = S.to;
            few_nodes = omega arith;
            few_accesses = omega arith;
          },
        )
      where
        further : Seen ts z.at (Read.item sequence_in d (kind_of (get_or ts z.at 0)) (drop (z.at + 1) ts)) next → z.at < next.at
        further S =
            let short = rw S.is at (item_short sequence_in sequence_in in_said d (kind_of (get_or ts z.at 0)) (drop (z.at + 1) ts)) in
            omega (arith, short, S.to, length-drop next.at ts, length-drop (z.at + 1) ts, begins_inside ts z.at d e)

        on : (S : Seen ts z.at (Read.item sequence_in d (kind_of (get_or ts z.at 0)) (drop (z.at + 1) ts)) next) (r : Reading)
            → on_from (behind z next) (count_of (length ts) r) ≡ on_from z (count_of (length ts) (and_then r (λ s vs. found (followed_by S.read s) vs)))
        on S broken = refl
        on S (found s vs) =
            let a : capped (capped (z.nodes + next.nodes) + capped (nodes_in s)) ≡ capped (z.nodes + capped (nodes_in (followed_by S.read s))) = omega (arith, S.nodes, join_nodes S.read s) in
            let b : capped (capped (z.accesses + next.accesses) + capped (accesses_in s)) ≡ capped (z.accesses + capped (accesses_in (followed_by S.read s))) = omega (arith, S.accesses, join_accesses S.read s) in
            rw (a, b)

-- ---- a token that was looked at

-- it closes, so that it stands among the tokens
pub closing : (ts : List ℕ) (p t u : ℕ) → u ≡ get_or ts p 0 → u ≡ t → (t ≡ 0 → ⊥) → (get_or ts p 0 ≡ t) × (p < length ts)
closing ts p t u e f z = (sym e ∙ f, in_tokens ts p (λ q. z (sym f ∙ e ∙ q)))

-- ---- nothing may be left over

module _ (ts : List ℕ) (c : Option Size) (e : c ≡ count_of (length ts) (sequence_in 8 ts)) where
  pub listing_broken : c ≡ None → None ≡ count_of (length ts) (listing_of ts)
  unfolding listing_of
  listing_broken f = go (sequence_in 8 ts) e
    where
      go : (r : Reading) → c ≡ count_of (length ts) r → None ≡ count_of (length ts) (to_the_end r)
      go broken h = refl
      go (found s us) h = let z : ◌≡◌ {A = ℕ} 0 1 = cc in absurd (omega arith)

  module _ (z : Size) (f : c ≡ Some z) where
    pub listing_whole : z.at ≡ length ts → Some z ≡ count_of (length ts) (listing_of ts)
    unfolding listing_of
    listing_whole g = go (sequence_in 8 ts) e (in_said 8 ts)
      where
        go : (r : Reading) → c ≡ count_of (length ts) r → Holds (Said 8 ts) r → Some z ≡ count_of (length ts) (to_the_end r)
        go broken h p = sym f ∙ h
        go (found s []) h p = sym f ∙ h
        go (found s (u ∷ us)) h p =
            let same : z ≡ size_of s (length ts - length (u ∷ us)) = cc in
            absurd (omega (arith, ap (λ z. z.at) same, g, said_short 8 ts s (u ∷ us) p))

    pub listing_more : (z.at ≡ length ts → ⊥) → None ≡ count_of (length ts) (listing_of ts)
    unfolding listing_of
    listing_more g = go (sequence_in 8 ts) e
      where
        go : (r : Reading) → c ≡ count_of (length ts) r → None ≡ count_of (length ts) (to_the_end r)
        go broken h = refl
        go (found s []) h =
            let same : z ≡ size_of s (length ts - 0) = cc in
            absurd (g (ap (λ z. z.at) same ∙ omega arith))
        go (found s (u ∷ us)) h = refl
