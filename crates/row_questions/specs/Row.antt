-- Questions put to the second analysis' answer. It is a row of units, and cell m has those at m misses: document 01's questions are put to the states that the row stands for.
use Rattle.std.specs.Prelude.{Bool, cond, ◌&&◌, ◌||◌, not, List, [], ◌∷◌, ℕ, suc, eqb, leb, ltb, length, Result}
use Rattle.basics.specs.Sums.{sum_over}
use Rattle.rules.specs.declared.Units.{Units}
use Rattle.rules.specs.declared.Refusal.{Refusal}
use Rattle.rules.specs.declared.Refusal.TheVariants.{NoCore, Accesses, Row}
use Rattle.rules.specs.declared.State.{State}
use Rattle.rules.specs.Units.{whole, units}
use Rattle.rules.specs.Answers.{Reason, when, first, answer_or}
use Rattle.rules.specs.Table.{state, no_state}
use Rattle.rules.specs.Questions.{largest, above, smallest_budget}
use Rattle.rules.specs.Cycles.{cores, core_at, above_cycles, smallest_cycles}

-- the states of the cells from the one for m misses on: nothing held, so many misses, the cell's units; a cell of 0 units has none
unfoldable pub states_from : ℕ → List ℕ → List State
states_from m [] = []
states_from m (u ∷ us) = cond (eqb u 0) (states_from (suc m) us) (state 0 m no_state.filled u ∷ states_from (suc m) us)

-- the states that a row stands for
abbrev pub states_of : List ℕ → List State
states_of row = states_from 0 row

-- accepted as a row: 1 to 4,097 cells, and a true total of exactly WHOLE
unfoldable pub is_row : List ℕ → Bool
is_row row = leb 1 (length row) && leb (length row) 4097 && eqb (sum_over (λ n. n) row) whole

-- 7: the row is none
abbrev pub cells_reason : List ℕ → Reason
cells_reason row = when (not (is_row row)) Row

-- what is answered about the units above B
unfoldable pub row_above : List ℕ → ℕ → Result Units Refusal
row_above row B = answer_or (first (cells_reason row ∷ [])) (units (above B (states_of row)))

-- what is answered about the smallest budget for u units
unfoldable pub row_budget : List ℕ → ℕ → Result ℕ Refusal
row_budget row u = answer_or (first (cells_reason row ∷ [])) (smallest_budget u (states_of row))

-- what is answered about the spread: the largest miss count present. The row itself has the units at each count up to there, and nothing beyond it
unfoldable pub row_spread : List ℕ → Result ℕ Refusal
row_spread row = answer_or (first (cells_reason row ∷ [])) (largest (states_of row))

-- ---- in cycles: document 02, request 9/13

-- 16: no such core; 4: a longest path above 4,096; 7: no row, or a cell with units for more misses than the longest path has accesses
unfoldable pub row_cycle_reasons : ℕ → ℕ → List ℕ → List Reason
row_cycle_reasons k L row =
    when (not (ltb k (length cores))) NoCore
    ∷ when (ltb 4096 L) Accesses
    ∷ when (not (is_row row) || ltb L (largest (states_of row))) Row
    ∷ []

-- what is answered about the units above B cycles, on core k, where the longest path has L accesses
unfoldable pub row_above_cycles : List ℕ → ℕ → ℕ → ℕ → Result Units Refusal
row_above_cycles row k L B = answer_or (first (row_cycle_reasons k L row)) (units (above_cycles (core_at k) L B (states_of row)))

-- what is answered about the smallest cycle budget for u units
unfoldable pub row_cycle_budget : List ℕ → ℕ → ℕ → ℕ → Result ℕ Refusal
row_cycle_budget row k L u = answer_or (first (row_cycle_reasons k L row)) (smallest_cycles (core_at k) L u (states_of row))
