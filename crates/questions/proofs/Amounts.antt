-- What is asked of a table in words: what the loops of `sums` compute. A loop goes through the states from the front; what is found so far
-- and what is left give the whole. The search by halves keeps a budget that serves, and below it only such as do not.
use mathlib.Core.Path.{◌≡◌}
use mathlib.Core.Bool.{cond}
use mathlib.Core.List.{List}
use Prim.Native.Nat.{ℕ, ◌+◌, ◌/◌, ◌≤◌, ◌<◌}
use native.Mathlib.Omega.{arith}
use lib.Dec.{ltb}
use lib.ListN.{length, drop}
use Rattle.rules.specs.declared.State.{State}
use Rattle.rules.specs.Counts.{above as above_any}
use Rattle.rules.specs.Table.{units_of, state_at}
use Rattle.rules.specs.Questions.{largest, above, smallest_budget}
use Rattle.rules.proofs.Questions.{above_largest, above_falls, smallest_is}
use Rattle.words.specs.Tables.{table_of}
use Rattle.words.proofs.Tables.{state_next, state_end}

module _ (ws : List ℕ) (i : ℕ) where
  -- ---- the units above a budget

  module _ (B sum : ℕ) (rest : sum + above B (drop i (table_of ws)) ≡ above B (table_of ws)) where
    pub above_next : i < length ws / 5 → (s : State) → s ≡ state_at (table_of ws) i → (u : ℕ) → u ≡ cond (ltb B s.misses) (units_of s) 0
        → sum + (u + above B (drop (i + 1) (table_of ws))) ≡ above B (table_of ws)
    unfolding above_any
    above_next h s e u f = rw (f, e) (state_next (λ T. sum + above B T) ws i (above B (table_of ws)) rest h)

    pub above_end : length ws / 5 ≤ i → sum ≡ above B (table_of ws)
    unfolding above_any
    above_end h = omega (arith, state_end (λ T. sum + above B T) ws i (above B (table_of ws)) rest h)

-- ---- the smallest budget, by halves

module _ (T : List State) (u : ℕ) where
  -- no budget below this one serves
  abbrev pub NoneBelow : ℕ → Type 0
  NoneBelow B = (A : ℕ) → A < B → u < above A T

  pub none_yet : NoneBelow 0
  none_yet A l = absurd (omega arith)

  pub largest_serves : (B : ℕ) → B ≡ largest T → above B T ≤ u
  largest_serves B e = omega (arith, above_largest B T (omega arith))

  pub none_up_to : (B : ℕ) → u < above B T → NoneBelow (B + 1)
  none_up_to B h A l = omega (arith, above_falls A B T (omega arith))

  pub halves_meet : (low high : ℕ) → low ≡ high → above high T ≤ u → NoneBelow low → low ≡ smallest_budget u T
  halves_meet low high e serves none = smallest_is u T low (rw e serves) none
