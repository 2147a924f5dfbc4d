-- The list of pairs that pair_contents leaves: each is a pair of rows, and there are no more than rows.
use mathlib.Core.Path.{◌≡◌, sym, subst}
use mathlib.Core.Bool.{Bool, true, false, cond}
use mathlib.Core.List.{List, [], ◌∷◌, ◌++◌}
use Prim.Native.Nat.{ℕ, zero, suc, ◌-◌, ◌≤◌, ◌<◌}
use native.Mathlib.Nat.{le_refl}
use native.Mathlib.Decide.{ℕ_discrete}
use native.Mathlib.Omega.{arith}
use lib.Dec.{eqb}
use Rattle.rules.specs.AnyTable.{Match}
use Rattle.rules.specs.Contents.{places}
use Rattle.rules.specs.Shape.{Every}
use Rattle.rules.proofs.Lists.{every_append}
use Rattle.tight_rules.specs.Join.{Two}
use Rattle.tight_pairs.specs.declared.Sides.{Sides}
use Rattle.tight_rows.specs.Room.{Words, words_of}
use Rattle.tight_pairs.specs.Joining.{taken, amount}
use Rattle.tight_pairs.specs.Matching.{two, row_with, rows_with, turns_to, match_of, takes, units_left, pair_at, pairs_to, Placed, PairedTo}
use Rattle.tight_joins.specs.Meeting.{PairsThere}

-- a pair of rows, of so many on either side
abbrev OfRows : ℕ → ℕ → Two → Type 0
OfRows I J c = (c.left < I) × (c.right < J)

-- and one with its units
abbrev MatchesRows : ℕ → ℕ → Match → Type 0
MatchesRows I J c = (c.left < I) × (c.right < J)

module _ (s : ℕ → ℕ → ℕ) (I J : ℕ) where
  row_of_rows : (n i : ℕ) → i < I → (j : ℕ) → j ≤ J → Every (OfRows I J) (row_with s n i j)
  unfolding row_with
  row_of_rows n i k zero l = tt
  row_of_rows n i k (suc j) l =
      every_append (OfRows I J) (row_with s n i j) (cond (eqb (s i j) n) (two i j ∷ []) []) (row_of_rows n i k j (omega arith)) (go (eqb (s i j) n))
    where
      go : (b : Bool) → Every (OfRows I J) (cond b (two i j ∷ []) [])
      go true = ((k, l), tt)
      go false = tt

  rows_of_rows : (n i : ℕ) → i ≤ I → Every (OfRows I J) (rows_with s n J i)
  unfolding rows_with
  rows_of_rows n zero l = tt
  rows_of_rows n (suc i) l = every_append (OfRows I J) (rows_with s n J i) (row_with s n i J) (rows_of_rows n i (omega arith)) (row_of_rows n i l J (le_refl J))

  turns_of_rows : (k : ℕ) → Every (OfRows I J) (turns_to s I J k)
  unfolding turns_to
  turns_of_rows zero = tt
  turns_of_rows (suc k) = every_append (OfRows I J) (turns_to s I J k) (rows_with s (places - k) J I) (turns_of_rows k) (rows_of_rows (places - k) I (le_refl I))

takes_of_rows : (I J : ℕ) (cs : List Two) (a b : ℕ → ℕ) → Every (OfRows I J) cs → Every (MatchesRows I J) (takes cs a b)
unfolding takes
takes_of_rows I J [] a b h = tt
takes_of_rows I J (c ∷ cs) a b h =
    let u = amount c a b in
    every_append (MatchesRows I J) (match_of c u) (takes cs (taken c.left u a) (taken c.right u b)) (go (eqb u 0)) (takes_of_rows I J cs (taken c.left u a) (taken c.right u b) h.1)
  where
    go : (v : Bool) → Every (MatchesRows I J) (cond v [] (record { left = c.left; right = c.right; units = amount c a b } ∷ []))
    go true = tt
    go false = (h.0, tt)

-- what is so of all pairs is so of each
last_of : (P : Match → Type 0) (ps : List Match) (q : Match) → Every P (ps ++ (q ∷ [])) → Every P ps × P q
last_of P [] q h = (tt, h.0)
last_of P (c ∷ ps) q h = let (f, g) = last_of P ps q h.1 in ((h.0, f), g)

each_pair : (P : Match → Type 0) (a : ℕ) (w : Words) (n : ℕ) → Every P (pairs_to a w n) → (k : ℕ) → k < n → P (pair_at a w k)
unfolding pairs_to
each_pair P a w zero h k l = absurd (omega arith)
each_pair P a w (suc n) h k l = go (last_of P (pairs_to a w n) (pair_at a w n) h) (each_pair P a w n) (ℕ_discrete k n)
  where
    go : Every P (pairs_to a w n) × P (pair_at a w n) → (Every P (pairs_to a w n) → (k : ℕ) → k < n → P (pair_at a w k)) → Dec (k ≡ n) → P (pair_at a w k)
    go (f, g) ih (yes e) = subst (λ (m : ℕ). P (pair_at a w m)) (sym e) g
    go (f, g) ih (no d) = ih f k (omega (arith, d))

pub pairs_there : (p : Sides) (s : ℕ → ℕ → ℕ) (t r : ℕ) (xs ys : List ℕ) → Placed p xs → PairedTo p (turns_to s p.left.rows p.right.rows t) 0 r xs ys → PairsThere p r ys
unfolding pairs_to
pairs_there p s t r xs ys at f =
    let I = p.left.rows in
    let J = p.right.rows in
    let all : Every (MatchesRows I J) (pairs_to p.pairs (words_of ys) r) =
    subst (Every (MatchesRows I J)) (sym f.pairs) (takes_of_rows I J (turns_to s I J t) (units_left p.left (words_of xs)) (units_left p.right (words_of xs)) (turns_of_rows s I J t)) in
    record {
      placed = record { left = at.left; right = at.right; apart = at.apart; before = at.before; behind = at.behind; end = omega (arith, f.long, at.end) };
      few = omega (arith, f.room);
      left = λ k l. (each_pair (MatchesRows I J) p.pairs (words_of ys) r all k l).0;
      right = λ k l. (each_pair (MatchesRows I J) p.pairs (words_of ys) r all k l).1;
    }
