-- Reading finds a listing exactly where the tokens are those of one. What is found says its tokens (`Said`); of any listing's tokens it finds that
-- listing (`reads`). How many items may be read at most makes no difference (`sequence_same`), so that a sequence is read item by item
-- (`sequence_next`).
use mathlib.Core.Path.{◌≡◌, refl, sym, ap, ◌∙◌}
use mathlib.Core.Bool.{Bool, true, false, cond, not, ◌&&◌}
use mathlib.Core.List.{List, [], ◌∷◌, ◌++◌, append-nil, append_assoc}
use mathlib.Core.Logic.{◌↔◌}
use Prim.Native.Nat.{ℕ, zero, suc, ◌≤◌, max}
use native.Mathlib.Omega.{arith}
use lib.Dec.{eqb}
use lib.ListN.{length, length-append}
use borrow.Author.Tests.{eqb-true, not-true}
use Rattle.basics.proofs.Bools.{both, and_left, and_right}
use Rattle.rules.specs.Refusals.{outside}
use Rattle.listing_form.specs.Listing.{Listing, end, access, branch, loop, tokens, nesting, good_counts, followed_by}
use Rattle.listing_form.specs.Reading.{Reading, found, broken, Kind, an_access, a_branch, a_loop, nothing, kind_of, and_then, closed, item, onwards, sequence_of, sequence_in, to_the_end, listing_of}

-- ---- one sequence behind another

pub branch_tokens : (l r s : Listing) (us : List ℕ) → tokens (branch l r s) ++ us ≡ 2 ∷ (tokens l ++ (3 ∷ (tokens r ++ (4 ∷ (tokens s ++ us)))))
unfolding tokens
branch_tokens l r s us =
    ap (2 ∷◌) (append_assoc (tokens l) (3 ∷ (tokens r ++ (4 ∷ tokens s))) us ∙ ap (λ ts. tokens l ++ (3 ∷ ts)) (append_assoc (tokens r) (4 ∷ tokens s) us))

pub loop_tokens : (n : ℕ) (l s : Listing) (us : List ℕ) → tokens (loop n l s) ++ us ≡ 5 ∷ n ∷ (tokens l ++ (6 ∷ (tokens s ++ us)))
unfolding tokens
loop_tokens n l s us = ap (λ ts. 5 ∷ n ∷ ts) (append_assoc (tokens l) (6 ∷ tokens s) us)

pub join_tokens : (s t : Listing) → tokens (followed_by s t) ≡ tokens s ++ tokens t
unfolding tokens followed_by
join_tokens end t = refl
join_tokens (access b s) t = ap (λ ts. 1 ∷ b ∷ ts) (join_tokens s t)
join_tokens (branch l r s) t = ap (λ ts. 2 ∷ (tokens l ++ (3 ∷ (tokens r ++ (4 ∷ ts))))) (join_tokens s t) ∙ sym (branch_tokens l r s (tokens t))
join_tokens (loop n l s) t = ap (λ ts. 5 ∷ n ∷ (tokens l ++ (6 ∷ ts))) (join_tokens s t) ∙ sym (loop_tokens n l s (tokens t))

pub join_nesting : (s t : Listing) → nesting (followed_by s t) ≡ max (nesting s) (nesting t)
unfolding nesting followed_by
join_nesting end t = omega arith
join_nesting (access b s) t = join_nesting s t
join_nesting (branch l r s) t = omega (arith, join_nesting s t)
join_nesting (loop n l s) t = omega (arith, join_nesting s t)

pub join_counted : (s t : Listing) → good_counts s ≡ true → good_counts t ≡ true → good_counts (followed_by s t) ≡ true
unfolding good_counts followed_by
join_counted end t p q = q
join_counted (access b s) t p q = join_counted s t p q
join_counted (branch l r s) t p q = both (good_counts l && good_counts r) _ (and_left (good_counts l && good_counts r) _ p) (join_counted s t (and_right (good_counts l && good_counts r) _ p) q)
join_counted (loop n l s) t p q =
    both (not (outside 1 64 n) && good_counts l) _ (and_left (not (outside 1 64 n) && good_counts l) _ p) (join_counted s t (and_right (not (outside 1 64 n) && good_counts l) _ p) q)

-- ---- what holds of what is found

abbrev pub Holds : (Listing → List ℕ → Type 0) → Reading → Type 0
Holds P broken = Unit {0}
Holds P (found s ts) = P s ts

holds_then : (P Q : Listing → List ℕ → Type 0) (r : Reading) (k : Listing → List ℕ → Reading) → Holds P r → ((s : Listing) (ts : List ℕ) → P s ts → Holds Q (k s ts)) → Holds Q (and_then r k)
holds_then P Q broken k h f = tt
holds_then P Q (found s ts) k h f = f s ts h

holds_closed : (Q : Listing → List ℕ → Type 0) (t : ℕ) (us : List ℕ) (k : List ℕ → Reading) → ((vs : List ℕ) → us ≡ t ∷ vs → Holds Q (k vs)) → Holds Q (closed t us k)
holds_closed Q t [] k f = tt
holds_closed Q t (u ∷ us) k f = go (eqb u t) refl
  where
    go : (b : Bool) → eqb u t ≡ b → Holds Q (cond b (k us) broken)
    go true e = f us (ap (◌∷ us) (eqb-true u t e))
    go false e = tt

-- the tokens ts begin with those of s, which nests at most d deep, and us are behind them
pub record Said (d : ℕ) (ts : List ℕ) (s : Listing) (us : List ℕ) : Type 0 where
  pub listed : ts ≡ tokens s ++ us
  pub deep : nesting s ≤ d
  pub rounds : good_counts s ≡ true

-- the token that begins an item of a kind
abbrev pub token_of : Kind → ℕ
token_of an_access = 1
token_of a_branch = 2
token_of a_loop = 5
token_of nothing = 0

pub item_said : (seq : ℕ → List ℕ → Reading) → ((d : ℕ) (ts : List ℕ) → Holds (Said d ts) (seq d ts)) → (d : ℕ) (k : Kind) (ts : List ℕ) → Holds (Said d (token_of k ∷ ts)) (item seq d k ts)
unfolding item tokens nesting good_counts
item_said seq h d an_access [] = tt
item_said seq h d an_access (b ∷ ts) = record { listed = refl; deep = omega arith; rounds = refl }
item_said seq h zero a_branch ts = tt
item_said seq h (suc d) a_branch ts =
    holds_then _ _ (seq d ts) _ (h d ts) (λ l us p. holds_closed _ 3 us _ (λ us e. holds_then _ _ (seq d us) _ (h d us) (λ r vs q. holds_closed _ 4 vs _ (λ vs f.
    record {
      listed = ap (2 ∷◌) (p.listed ∙ ap (tokens l ++◌) (e ∙ ap (3 ∷◌) (q.listed ∙ ap (tokens r ++◌) f))) ∙ sym (branch_tokens l r end vs);
      deep = omega (arith, p.deep, q.deep);
      rounds = both (good_counts l && good_counts r) _ (both (good_counts l) _ p.rounds q.rounds) refl;
    }))))
item_said seq h zero a_loop ts = tt
item_said seq h (suc d) a_loop [] = tt
item_said seq h (suc d) a_loop (n ∷ ts) = go (outside 1 64 n) refl
  where
    go : (b : Bool) → outside 1 64 n ≡ b → Holds (Said (suc d) (5 ∷ n ∷ ts)) (cond b broken (and_then (seq d ts) (λ l us. closed 6 us (λ us. found (loop n l end) us))))
    go true e = tt
    go false e =
        holds_then _ _ (seq d ts) _ (h d ts) (λ l us p. holds_closed _ 6 us _ (λ us e'.
        record {
          listed = ap (λ ts. 5 ∷ n ∷ ts) (p.listed ∙ ap (tokens l ++◌) e') ∙ sym (loop_tokens n l end us);
          deep = omega (arith, p.deep);
          rounds = both (not (outside 1 64 n) && good_counts l) _ (both (not (outside 1 64 n)) _ (ap not e) p.rounds) refl;
        }))
item_said seq h d nothing ts = tt

pub kind_token : (t : ℕ) (k : Kind) → kind_of t ≡ k → (k ≡ nothing → ⊥) → t ≡ token_of k
unfolding kind_of
kind_token t k e f = go (eqb t 1) (eqb t 2) (eqb t 5) refl refl refl e
  where
    go : (a b c : Bool) → eqb t 1 ≡ a → eqb t 2 ≡ b → eqb t 5 ≡ c → cond a an_access (cond b a_branch (cond c a_loop nothing)) ≡ k → t ≡ token_of k
    go true b c p q r h = eqb-true t 1 p ∙ ap token_of h
    go false true c p q r h = eqb-true t 2 q ∙ ap token_of h
    go false false true p q r h = eqb-true t 5 r ∙ ap token_of h
    go false false false p q r h = absurd (f (sym h))

-- the item at the front, of a kind, and the items behind it
abbrev pub rest : (ℕ → List ℕ → Reading) → ℕ → Kind → List ℕ → Reading
rest seq d k ts = and_then (item seq d k ts) (λ i us. and_then (seq d us) (λ s vs. found (followed_by i s) vs))

next_said : (seq : ℕ → List ℕ → Reading) → ((d : ℕ) (ts : List ℕ) → Holds (Said d ts) (seq d ts)) → (d t : ℕ) (ts : List ℕ)
    → Holds (Said d (t ∷ ts)) (onwards (kind_of t) (found end (t ∷ ts)) (rest seq d (kind_of t) ts))
unfolding tokens nesting good_counts
next_said seq h d t ts = go (kind_of t) refl
  where
    further : (k : Kind) → kind_of t ≡ k → (k ≡ nothing → ⊥) → Holds (Said d (t ∷ ts)) (rest seq d k ts)
    further k e n =
        holds_then _ _ (item seq d k ts) _ (item_said seq h d k ts) (λ i us p.
        holds_then _ _ (seq d us) _ (h d us) (λ s vs q.
        record {
          listed = ap (◌∷ ts) (kind_token t k e n) ∙ p.listed ∙ ap (tokens i ++◌) q.listed ∙ sym (append_assoc (tokens i) (tokens s) vs) ∙ ap (◌++ vs) (sym (join_tokens i s));
          deep = omega (arith, p.deep, q.deep, join_nesting i s);
          rounds = join_counted i s p.rounds q.rounds;
        }))

    go : (k : Kind) → kind_of t ≡ k → Holds (Said d (t ∷ ts)) (onwards k (found end (t ∷ ts)) (rest seq d k ts))
    go an_access e = further an_access e (λ n. let z : ◌≡◌ {A = ℕ} 0 1 = cc in omega arith)
    go a_branch e = further a_branch e (λ n. let z : ◌≡◌ {A = ℕ} 0 1 = cc in omega arith)
    go a_loop e = further a_loop e (λ n. let z : ◌≡◌ {A = ℕ} 0 1 = cc in omega arith)
    go nothing e = record { listed = refl; deep = omega arith; rounds = refl }

-- what is found says its tokens
pub sequence_said : (f d : ℕ) (ts : List ℕ) → Holds (Said d ts) (sequence_of f d ts)
unfolding sequence_of tokens nesting good_counts
sequence_said zero d ts = record { listed = refl; deep = omega arith; rounds = refl }
sequence_said (suc f) d [] = record { listed = refl; deep = omega arith; rounds = refl }
sequence_said (suc f) d (t ∷ ts) = next_said (sequence_of f) (sequence_said f) d t ts

-- ---- how many items may be read at most makes no difference

-- what is behind is no longer than what was read from
pub said_short : (d : ℕ) (ts : List ℕ) (s : Listing) (us : List ℕ) → Said d ts s us → length us ≤ length ts
said_short d ts s us p = omega (arith, ap length p.listed, length-append (tokens s) us)

then_same : (P : Listing → List ℕ → Type 0) (r : Reading) (k m : Listing → List ℕ → Reading) → Holds P r → ((s : Listing) (ts : List ℕ) → P s ts → k s ts ≡ m s ts) → and_then r k ≡ and_then r m
then_same P broken k m h f = refl
then_same P (found s ts) k m h f = f s ts h

closed_same : (t : ℕ) (us : List ℕ) (k m : List ℕ → Reading) → ((vs : List ℕ) → us ≡ t ∷ vs → k vs ≡ m vs) → closed t us k ≡ closed t us m
closed_same t [] k m f = refl
closed_same t (u ∷ us) k m f = go (eqb u t) refl
  where
    go : (b : Bool) → eqb u t ≡ b → cond b (k us) broken ≡ cond b (m us) broken
    go true e = f us (ap (◌∷ us) (eqb-true u t e))
    go false e = refl

-- a branch behind its first arm
abbrev second_arm : (ℕ → List ℕ → Reading) → ℕ → Listing → List ℕ → Reading
second_arm seq d l us = and_then (seq d us) (λ r vs. closed 4 vs (λ vs. found (branch l r end) vs))

-- a sequence behind its first item
abbrev behind : (ℕ → List ℕ → Reading) → ℕ → Listing → List ℕ → Reading
behind seq d i us = and_then (seq d us) (λ s vs. found (followed_by i s) vs)

module _ (seq teq : ℕ → List ℕ → Reading) (h : (d : ℕ) (ts : List ℕ) → Holds (Said d ts) (seq d ts)) where
  -- what is behind an item is no longer than what is behind its first token
  pub item_short : (d : ℕ) (k : Kind) (ts : List ℕ) → Holds (λ i us. length us ≤ length ts) (item seq d k ts)
  unfolding item
  item_short d an_access [] = tt
  item_short d an_access (b ∷ ts) = omega arith
  item_short zero a_branch ts = tt
  item_short (suc d) a_branch ts =
      holds_then (Said d ts) _ (seq d ts) _ (h d ts) (λ l us p. holds_closed _ 3 us _ (λ us' e.
      holds_then (Said d us') _ (seq d us') _ (h d us') (λ r vs q. holds_closed _ 4 vs _ (λ vs' f.
      omega (arith, said_short d ts l us p, ap length e, said_short d us' r vs q, ap length f)))))
  item_short zero a_loop ts = tt
  item_short (suc d) a_loop [] = tt
  item_short (suc d) a_loop (n ∷ ts) = go (outside 1 64 n)
    where
      go : (b : Bool) → Holds (λ i us. length us ≤ suc (length ts)) (cond b broken (and_then (seq d ts) (λ l us. closed 6 us (λ us. found (loop n l end) us))))
      go true = tt
      go false =
          holds_then (Said d ts) _ (seq d ts) _ (h d ts) (λ l us p. holds_closed _ 6 us _ (λ us' e. omega (arith, said_short d ts l us p, ap length e)))
  item_short d nothing ts = tt

  item_same : (ts : List ℕ) → ((d : ℕ) (us : List ℕ) → length us ≤ length ts → seq d us ≡ teq d us) → (d : ℕ) (k : Kind) → item seq d k ts ≡ item teq d k ts
  unfolding item
  item_same [] same d an_access = refl
  item_same (b ∷ ts) same d an_access = refl
  item_same ts same zero a_branch = refl
  item_same ts same (suc d) a_branch =
      rw (← same d ts (omega arith))
      (then_same (Said d ts) (seq d ts) (λ l us. closed 3 us (second_arm seq d l)) (λ l us. closed 3 us (second_arm teq d l)) (h d ts) (λ l us p.
      closed_same 3 us (second_arm seq d l) (second_arm teq d l) (λ vs e.
      ap (λ r. and_then r (λ r vs. closed 4 vs (λ vs. found (branch l r end) vs))) (same d vs (omega (arith, said_short d ts l us p, ap length e))))))
  item_same ts same zero a_loop = refl
  item_same [] same (suc d) a_loop = refl
  item_same (n ∷ ts) same (suc d) a_loop = rw (same d ts (omega arith))
  item_same ts same d nothing = refl

  rest_same : (ts : List ℕ) → ((d : ℕ) (us : List ℕ) → length us ≤ length ts → seq d us ≡ teq d us) → (d : ℕ) (k : Kind) → rest seq d k ts ≡ rest teq d k ts
  rest_same ts same d k =
      rw (← item_same ts same d k)
      (then_same (λ i us. length us ≤ length ts) (item seq d k ts) (behind seq d) (behind teq d) (item_short d k ts) (λ i us p.
      ap (λ r. and_then r (λ s vs. found (followed_by i s) vs)) (same d us p)))

pub sequence_same : (f g d : ℕ) (ts : List ℕ) → length ts ≤ f → length ts ≤ g → sequence_of f d ts ≡ sequence_of g d ts
unfolding sequence_of
sequence_same zero zero d ts l m = refl
sequence_same zero (suc g) d [] l m = refl
sequence_same zero (suc g) d (t ∷ ts) l m = absurd (omega arith)
sequence_same (suc f) zero d [] l m = refl
sequence_same (suc f) zero d (t ∷ ts) l m = absurd (omega arith)
sequence_same (suc f) (suc g) d [] l m = refl
sequence_same (suc f) (suc g) d (t ∷ ts) l m =
    ap (onwards (kind_of t) (found end (t ∷ ts)))
    (rest_same (sequence_of f) (sequence_of g) (sequence_said f) ts (λ e us n. sequence_same f g e us (omega arith) (omega arith)) d (kind_of t))

-- ---- a sequence, item by item

pub in_said : (d : ℕ) (ts : List ℕ) → Holds (Said d ts) (sequence_in d ts)
unfolding sequence_in
in_said d ts = sequence_said (length ts) d ts

pub sequence_end : (d : ℕ) → sequence_in d [] ≡ found end []
unfolding sequence_in sequence_of
sequence_end d = refl

pub sequence_next : (d t : ℕ) (ts : List ℕ) → sequence_in d (t ∷ ts) ≡ onwards (kind_of t) (found end (t ∷ ts)) (rest sequence_in d (kind_of t) ts)
unfolding sequence_in sequence_of
sequence_next d t ts =
    ap (onwards (kind_of t) (found end (t ∷ ts)))
    (rest_same (sequence_of (length ts)) sequence_in (sequence_said (length ts)) ts
    (λ e us n. sequence_same (length ts) (length us) e us n (omega arith)) d (kind_of t))

-- ---- of any listing's tokens that listing is found

-- no item begins there
abbrev pub Stops : List ℕ → Type 0
Stops [] = Unit {0}
Stops (t ∷ ts) = kind_of t ≡ nothing

read_access : (d b : ℕ) (ts us : List ℕ) (s : Listing) → sequence_in d ts ≡ found s us → sequence_in d (1 ∷ b ∷ ts) ≡ found (access b s) us
unfolding kind_of item followed_by
read_access d b ts us s e = sequence_next d 1 (b ∷ ts) ∙ rw e

read_branch : (d : ℕ) (ts us vs ws : List ℕ) (l r s : Listing) → sequence_in d ts ≡ found l (3 ∷ us) → sequence_in d us ≡ found r (4 ∷ vs)
    → sequence_in (suc d) vs ≡ found s ws → sequence_in (suc d) (2 ∷ ts) ≡ found (branch l r s) ws
unfolding kind_of item followed_by
read_branch d ts us vs ws l r s e f g = sequence_next (suc d) 2 ts ∙ rw (e, f, g)

read_loop : (d n : ℕ) (ts us vs : List ℕ) (l s : Listing) → outside 1 64 n ≡ false → sequence_in d ts ≡ found l (6 ∷ us)
    → sequence_in (suc d) us ≡ found s vs → sequence_in (suc d) (5 ∷ n ∷ ts) ≡ found (loop n l s) vs
unfolding kind_of item followed_by
read_loop d n ts us vs l s o e f = sequence_next (suc d) 5 (n ∷ ts) ∙ rw (o, e, f)

pub reads : (s : Listing) (d : ℕ) (us : List ℕ) → nesting s ≤ d → good_counts s ≡ true → Stops us → sequence_in d (tokens s ++ us) ≡ found s us
unfolding tokens nesting good_counts kind_of
reads end d [] l c h = sequence_end d
reads end d (t ∷ us) l c h = sequence_next d t us ∙ rw h
reads (access b s) d us l c h = read_access d b (tokens s ++ us) us s (reads s d us l c h)
reads (branch l r s) zero us m c h = absurd (omega (arith, m))
reads (branch l r s) (suc d) us m c h =
    ap (sequence_in (suc d)) (branch_tokens l r s us)
    ∙ read_branch d _ _ _ us l r s
    (reads l d _ (omega (arith, m)) (and_left (good_counts l) _ (and_left (good_counts l && good_counts r) _ c)) refl)
    (reads r d _ (omega (arith, m)) (and_right (good_counts l) _ (and_left (good_counts l && good_counts r) _ c)) refl)
    (reads s (suc d) us (omega (arith, m)) (and_right (good_counts l && good_counts r) _ c) h)
reads (loop n l s) zero us m c h = absurd (omega (arith, m))
reads (loop n l s) (suc d) us m c h =
    ap (sequence_in (suc d)) (loop_tokens n l s us)
    ∙ read_loop d n _ _ us l s (not-true (outside 1 64 n) (and_left (not (outside 1 64 n)) _ (and_left (not (outside 1 64 n) && good_counts l) _ c)))
    (reads l d _ (omega (arith, m)) (and_right (not (outside 1 64 n)) _ (and_left (not (outside 1 64 n) && good_counts l) _ c)) refl)
    (reads s (suc d) us (omega (arith, m)) (and_right (not (outside 1 64 n) && good_counts l) _ c) h)

-- ---- the form

-- s is what the tokens list: they are its tokens, branches and loops nest at most 8 deep, and every count is from 1 to 64
pub record Lists (ts : List ℕ) (s : Listing) : Type 0 where
  pub listed : tokens s ≡ ts
  pub deep : nesting s ≤ 8
  pub rounds : good_counts s ≡ true

whole_found : (r : Reading) (s : Listing) → to_the_end r ≡ found s [] → r ≡ found s []
whole_found broken s e = e
whole_found (found t []) s e = e
whole_found (found t (u ∷ us)) s e = let z : ◌≡◌ {A = ℕ} 0 1 = cc in absurd (omega arith)

-- what is read is what the tokens list, and what the tokens list is read
pub form : (ts : List ℕ) (s : Listing) → (listing_of ts ≡ found s []) ↔ Lists ts s
unfolding listing_of
form ts s = (back, λ p. rw (← p.listed, ← append-nil (tokens s)) (ap to_the_end (reads s 8 [] p.deep p.rounds tt)))
  where
    from : (r : Reading) → Holds (Said 8 ts) r → r ≡ found s [] → Lists ts s
    from broken h e = let z : ◌≡◌ {A = ℕ} 0 1 = cc in absurd (omega arith)
    from (found t us) h e =
        let same : t ≡ s = cc in
        let none : us ≡ [] = cc in
        record { listed = sym (h.listed ∙ rw (same, none) (append-nil (tokens s))); deep = rw (← same) h.deep; rounds = rw (← same) h.rounds }

    back : to_the_end (sequence_in 8 ts) ≡ found s [] → Lists ts s
    back e = from (sequence_in 8 ts) (in_said 8 ts) (whole_found (sequence_in 8 ts) s e)
