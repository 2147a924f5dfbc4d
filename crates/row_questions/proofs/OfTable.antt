-- The row of a table, which has its units at each miss count: it is accepted where they are all units, and what is asked of it is what is asked of the table. No other proof of this
-- crate uses this: it is for the callers.
use mathlib.Core.Path.{◌≡◌, refl, sym, ap, ◌∙◌}
use mathlib.Core.Bool.{Bool, true, false}
use mathlib.Core.List.{List}
use Prim.Native.Nat.{ℕ, suc, ◌+◌, ◌-◌, ◌≤◌, ◌<◌}
use native.Mathlib.Omega.{arith}
use borrow.Author.Tests.{eq-eqb, le-leb, ltb-true, ltb-false}
use lib.Dec.{ltb}
use lib.ListN.{take, drop, take-append-drop, drop_of_length-le}
use Rattle.basics.specs.Sums.{sum_over}
use Rattle.basics.proofs.Sums.{sum_append}
use Rattle.rules.specs.declared.State.{State}
use Rattle.rules.specs.Units.{whole}
use Rattle.rules.specs.AnyTable.{total as total_of}
use Rattle.rules.specs.Table.{units_of, total}
use Rattle.rules.specs.Questions.{misses_of, largest, counts_below, above, smallest_budget}
use Rattle.rules.proofs.Counts.{counts_above}
use Rattle.rules.proofs.Questions.{above_largest, length_counts, counts_take, smallest_serves, none_smaller, smallest_is}
use Rattle.row_questions.specs.Row.{states_of, is_row}
use Rattle.row_questions.proofs.Standing.{sum, above_row}

-- up to a number and above it
below_above : (B : ℕ) (T : List State) → sum (counts_below (suc B) T) + above B T ≡ total T
unfolding total_of
below_above B T = counts_above units_of misses_of B T

-- the row has n cells, and a cell for each miss count
module _ (T : List State) (n : ℕ) (within : largest T < n) where
  abbrev row : List ℕ
  row = counts_below n T

  pub row_sum_lem : sum row ≡ total T
  row_sum_lem =
      let up : n ≡ suc (n - 1) = omega arith in
      ap (λ (k : ℕ). sum (counts_below k T)) up ∙ omega (arith, below_above (n - 1) T, above_largest (n - 1) T (omega arith))

  -- the cells behind that of the budget
  behind : (B : ℕ) → sum (drop (suc B) row) ≡ above B T
  behind B = go (ltb B n) refl
    where
      parts : sum (take (suc B) row) + sum (drop (suc B) row) ≡ sum row
      parts = sym (sum_append (λ n. n) (take (suc B) row) (drop (suc B) row)) ∙ ap (sum_over (λ n. n)) (take-append-drop (suc B) row)

      front : B < n → take (suc B) row ≡ counts_below (suc B) T
      front l = let e : n ≡ n - suc B + suc B = omega arith in ap (λ (k : ℕ). take (suc B) (counts_below k T)) e ∙ counts_take (n - suc B) (suc B) T

      go : (b : Bool) → ltb B n ≡ b → sum (drop (suc B) row) ≡ above B T
      go true e = omega (arith, parts, row_sum_lem, below_above B T, ap (sum_over (λ n. n)) (front (ltb-true B n e)))
      go false e =
          ap (sum_over (λ n. n)) (drop_of_length-le row {i = suc B} (omega (arith, length_counts n T, ltb-false B n e))) ∙ sym (above_largest B T (omega (arith, ltb-false B n e)))

  pub above_same : (B : ℕ) → above B (states_of row) ≡ above B T
  above_same B = above_row B row ∙ behind B

  pub budget_same : (u : ℕ) → smallest_budget u (states_of row) ≡ smallest_budget u T
  budget_same u =
      sym (smallest_is u (states_of row) (smallest_budget u T) (rw (above_same (smallest_budget u T)) (smallest_serves u T)) (λ A l. rw (above_same A) (none_smaller u T A l)))

  pub is_row_lem : total T ≡ whole → n ≤ 4097 → is_row row ≡ true
  unfolding is_row
  is_row_lem all few =
      rw (length_counts n T, row_sum_lem, all, le-leb 1 n (omega arith), le-leb n 4097 few, eq-eqb whole whole refl) refl
