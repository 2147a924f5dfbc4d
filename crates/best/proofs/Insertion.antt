-- When two states stand in the same place: where all their numbers are equal.
use mathlib.Core.Path.{◌≡◌}
use mathlib.Core.Bool.{false, cond, ◌&&◌}
use Prim.Native.Nat.{ℕ}
use lib.Dec.{eqb}
use borrow.Author.Tests.{eq-eqb, ne_eqb}
use Rattle.rules.specs.declared.BestState.{BestState}
use Rattle.rules.specs.Ordered.{by_number}
use Rattle.best.specs.Tables.{misses_of, hits_of, order}
use Rattle.tables.specs.Placing.{is_same}
use Rattle.tables.proofs.Insertion.{same_then, same_number}

module _ (s t : BestState) where
  -- two states stand in the same place where all their numbers are equal
  pub same_tests : is_same (order s t)
      ≡ (eqb (cond s.exact 0 1) (cond t.exact 0 1) && (eqb s.mask t.mask && (eqb (misses_of s) (misses_of t) && eqb (hits_of s) (hits_of t))))
  unfolding order
  same_tests =
      rw (
        same_then (by_number (cond s.exact 0 1) (cond t.exact 0 1)) _,
        same_then (by_number s.mask t.mask) _,
        same_then (by_number (misses_of s) (misses_of t)) (by_number (hits_of s) (hits_of t)),
        same_number (cond s.exact 0 1) (cond t.exact 0 1),
        same_number s.mask t.mask,
        same_number (misses_of s) (misses_of t),
        same_number (hits_of s) (hits_of t),
      )

  -- a and b say whether they are exact
  module _ (a b : ℕ) (is-a : a ≡ cond s.exact 0 1) (is_b : b ≡ cond t.exact 0 1) where
    pub exact_apart : (a ≡ b → ⊥) → false ≡ is_same (order s t)
    exact_apart n = rw (same_tests, ← is-a, ← is_b, ne_eqb a b n)

    module _ (exact : a ≡ b) where
      pub mask_apart : (s.mask ≡ t.mask → ⊥) → false ≡ is_same (order s t)
      mask_apart n = rw (same_tests, ← is-a, ← is_b, eq-eqb a b exact, ne_eqb s.mask t.mask n)

      module _ (mask : s.mask ≡ t.mask) where
        pub misses_apart : (misses_of s ≡ misses_of t → ⊥) → false ≡ is_same (order s t)
        misses_apart n = rw (same_tests, ← is-a, ← is_b, eq-eqb a b exact, eq-eqb s.mask t.mask mask, ne_eqb (misses_of s) (misses_of t) n)

        pub hits_same : misses_of s ≡ misses_of t → eqb (hits_of s) (hits_of t) ≡ is_same (order s t)
        hits_same e = rw (same_tests, ← is-a, ← is_b, eq-eqb a b exact, eq-eqb s.mask t.mask mask, eq-eqb (misses_of s) (misses_of t) e)
