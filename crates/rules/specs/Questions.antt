-- Questions put to a finished table: document 01, section 4.
use Rattle.std.specs.Prelude.{Bool, true, false, ◌&&◌, not, List, [], ◌∷◌, ◌++◌, ℕ, zero, suc, ◌-◌, eqb, leb, ltb, length, replicate, Err, Ok, Result}
use Rattle.rules.specs.declared.Units.{Units}
use Rattle.rules.specs.declared.Refusal.{Refusal}
use Rattle.rules.specs.declared.Refusal.TheVariants.{Row, SpreadRoom}
use Rattle.rules.specs.Units.{whole, units}
use Rattle.rules.specs.Answers.{Reason, when, first, Verdict, answer_or}
use Rattle.rules.specs.Filling.{numbers_of}
use Rattle.rules.specs.Counts.{units_at as units_at_of, largest as largest_of, counts_below as counts_below_of, spread as spread_of, above as above_of}
use Rattle.rules.specs.Table.{State, units_of, rising, total}

-- ---- what is accepted as a table

-- each number is at most n
abbrev pub all_most : ℕ → List ℕ → Bool
all_most n [] = true
all_most n (m ∷ ms) = leb m n && all_most n ms

-- a state of a table: mask at most 65,535, misses at most 4,096, each filled number at most 16, at least 1 unit
abbrev pub fitting : State → Bool
fitting s = leb s.mask 65535 && leb s.misses 4096 && all_most 16 (numbers_of s.filled) && leb 1 (units_of s)

-- each state is
abbrev pub all_fitting : List State → Bool
all_fitting [] = true
all_fitting (s ∷ T) = fitting s && all_fitting T

-- 1 to 64 states, rising, each fitting, and a true total of exactly WHOLE
unfoldable pub is_table : List State → Bool
is_table T = leb 1 (length T) && leb (length T) 64 && rising T && all_fitting T && eqb (total T) whole

-- ---- what is asked of it

-- the misses of a state, the count that is asked about
abbrev pub misses_of : State → ℕ
misses_of s = s.misses

-- the units at m misses
abbrev pub units_at : ℕ → List State → ℕ
units_at m T = units_at_of units_of misses_of m T

-- the largest miss count present
abbrev pub largest : List State → ℕ
largest T = largest_of misses_of T

-- the units at each miss count below n
abbrev pub counts_below : ℕ → List State → List ℕ
counts_below n T = counts_below_of units_of misses_of n T

-- the spread: the units at each miss count from 0 to the largest present
abbrev pub spread : List State → List ℕ
spread T = spread_of units_of misses_of T

-- the units above a budget: misses strictly greater
abbrev pub above : ℕ → List State → ℕ
above B T = above_of units_of misses_of B T

-- the least number from m on, n steps at most, that passes the test
abbrev pub least_from : (ℕ → Bool) → ℕ → Bool → ℕ → ℕ
least_from test zero passed m = m
least_from test (suc n) true m = m
least_from test (suc n) false m = least_from test n (test (suc m)) (suc m)

-- the least number that passes, where n does
unfoldable pub least : (ℕ → Bool) → ℕ → ℕ
least test n = least_from test n (test 0) 0

-- the smallest budget whose units above are at most u; the largest miss count is one with none above
unfoldable pub smallest_budget : ℕ → List State → ℕ
smallest_budget u T = least (λ B. leb (above B T) u) (largest T)

-- ---- the answers: 7 for a row that is no table, then 8 for room that is too short

-- 7: the row is no table
abbrev pub row_reason : List State → Reason
row_reason row = when (not (is_table row)) Row

-- what is answered about the units above B
unfoldable pub above_answer : List State → ℕ → Result Units Refusal
above_answer row B = answer_or (first (row_reason row ∷ [])) (units (above B row))

-- what is answered about the smallest budget for u units
unfoldable pub budget_answer : List State → ℕ → Result ℕ Refusal
budget_answer row u = answer_or (first (row_reason row ∷ [])) (smallest_budget u row)

-- what the spread answers, the largest miss count, and what it leaves in the lent room: the units at each count and then zeros; a
-- refusal leaves the room as it was
pub record SpreadAnswer : Type 0 where
  pub answer : Result ℕ Refusal
  pub room : List ℕ

-- the spread of an accepted row goes into the room; a refusal is the answer, and the room stays as it was
abbrev pub spread_into : Verdict → List State → List ℕ → SpreadAnswer
spread_into (Ok tt) row room =
    record { answer = Ok (largest row); room = spread row ++ replicate (length room - suc (largest row)) 0 }
spread_into (Err r) row room = record { answer = Err r; room = room }

-- 7, then 8, then the spread
unfoldable pub spread_answer : List State → List ℕ → SpreadAnswer
spread_answer row room = spread_into (first (row_reason row ∷ when (ltb (length room) (suc (largest row))) SpreadRoom ∷ [])) row room
