-- A join by any pairing that uses each state's units exactly is worth no less than either table, to a weight that rises: each pair
-- has the shared blocks, the larger misses and the larger filled numbers, and so is each of its two states weakened.
use mathlib.Core.List.{List, [], ◌∷◌}
use Prim.Native.Nat.{ℕ, ◌*◌, ◌≤◌}
use native.Mathlib.Nat.{mul-le-mul_left, add-le-add, le_refl}
use Rattle.basics.specs.Sums.{sum_over}
use Rattle.rules.specs.declared.State.{State}
use Rattle.rules.specs.Units.{whole}
use Rattle.rules.specs.Table.{total, state_at}
use Rattle.rules.specs.Join.{Match, matched, paired}
use Rattle.rules.specs.Shape.{Every, Shaped}
use Rattle.rules.proofs.Table.{Weight, weight_of, worth_of, worth}
use Rattle.rules.proofs.Fold.{loose_at}
use Rattle.rules.proofs.Join.{Uses, matched_worth, paired_worth}
use Rattle.promises.proofs.Value.{Rises}
use Rattle.promises.proofs.Weaker.{weaker_weighs, meet_left, meet_right}

-- by any pairing, where each pair weighs no less than the state on one side of it
paired_above : (f : Weight) (P : List Match) (S T : List State) (side : Match → ℕ) (U : List State) → Uses side P U
    → Uses (λ p. p.left) P S → total S ≤ whole
    → ((p : Match) → weight_of f (state_at U (side p)) ≤ weight_of f (matched S T p))
    → worth f U ≤ worth f (paired P S T)
paired_above f P S T side U u l full above = rw (matched_worth side P U u f, paired_worth P S T l full f) (each P)
  where
    each : (P : List Match) → sum_over (λ p. p.units * weight_of f (state_at U (side p))) P
        ≤ sum_over (λ p. worth_of f (matched S T p)) P
    each [] = le_refl 0
    each (p ∷ P) = add-le-add (mul-le-mul_left p.units (above p)) (each P)

module _ (N Z : ℕ) (ts : List ℕ) (M : ℕ) (f : Weight) (rises : Rises N Z ts f) (S T : List State) (a : Every (Shaped N Z ts M) S) (b : Every (Shaped N Z ts M) T)
    (full : total S ≤ whole) where
  pub pairing_above : (P : List Match) → Uses (λ p. p.left) P S → Uses (λ p. p.right) P T
      → (worth f S ≤ worth f (paired P S T)) × (worth f T ≤ worth f (paired P S T))
  pairing_above P l r = (
    paired_above f P S T (λ p. p.left) S l l full
        (λ p. weaker_weighs N Z ts f rises _ _ (meet_left (state_at S p.left) (state_at T p.right) p.units) (loose_at N Z ts M p.left S a).small),
    paired_above f P S T (λ p. p.right) T r l full
        (λ p. weaker_weighs N Z ts f rises _ _ (meet_right (state_at S p.left) (state_at T p.right) p.units) (loose_at N Z ts M p.right T b).small),
  )
