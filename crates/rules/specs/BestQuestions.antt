-- Questions put to a finished table of the best case: document 02, request 10/13, as in document 01, section 4. Of hits and of misses each.
use Rattle.std.specs.Prelude.{Bool, true, ◌||◌, ◌&&◌, not, List, [], ◌∷◌, ◌++◌, ℕ, suc, ◌-◌, eqb, leb, ltb, length, replicate, Err, Ok, Result}
use Rattle.rules.specs.declared.Refusal.{Refusal}
use Rattle.rules.specs.declared.Misses.{Misses}
use Rattle.rules.specs.declared.Hits.{Hits}
use Rattle.rules.specs.declared.Refusal.TheVariants.{Row, SpreadRoom}
use Rattle.rules.specs.Units.{whole}
use Rattle.rules.specs.Answers.{Reason, when, first, Verdict, answer_or}
use Rattle.rules.specs.Ordered.{rises}
use Rattle.rules.specs.AnyTable.{total}
use Rattle.rules.specs.Counts.{largest, spread, above}
use Rattle.rules.specs.Best.{BestState, misses_of, hits_of, units_of, order, listing}

-- ---- what is accepted as a table

-- a state of a table: mask at most 65,535 and 0 where it is open, misses at most 4,096 and hits too, at least 1 unit
abbrev pub best_fitting : BestState → Bool
best_fitting s = leb s.mask 65535 && (s.exact || eqb s.mask 0) && leb (misses_of s) 4096 && leb (hits_of s) 4096 && leb 1 (units_of s)

-- each state is
abbrev pub all_best_fitting : List BestState → Bool
all_best_fitting [] = true
all_best_fitting (s ∷ T) = best_fitting s && all_best_fitting T

-- 1 to 64 states, rising, each fitting, and a true total of exactly WHOLE
unfoldable pub is_best_table : List BestState → Bool
is_best_table T = leb 1 (length T) && leb (length T) 64 && rises order T && all_best_fitting T && eqb (total listing T) whole

-- ---- what is asked of it

-- the units at each miss count from 0 to the largest present
unfoldable pub miss_spread : List BestState → List ℕ
miss_spread T = spread units_of misses_of T

-- the units at each hit count from 0 to the largest present
unfoldable pub hit_spread : List BestState → List ℕ
hit_spread T = spread units_of hits_of T

-- the units with more than B misses
unfoldable pub misses_above : ℕ → List BestState → ℕ
misses_above B T = above units_of misses_of B T

-- the units with more than B hits
unfoldable pub hits_above : ℕ → List BestState → ℕ
hits_above B T = above units_of hits_of B T

-- ---- the answers: 7 for a row that is no table, then 8 for room that is too short

-- 7: the row is no table
abbrev pub best_row_reason : List BestState → Reason
best_row_reason row = when (not (is_best_table row)) Row

-- 7, then 8 for a spread whose largest count is m
abbrev pub spread_reasons : List BestState → ℕ → List ℕ → List Reason
spread_reasons row m room = best_row_reason row ∷ when (ltb (length room) (suc m)) SpreadRoom ∷ []

-- what the lent room then holds: the units at each count and then zeros; a refusal leaves it as it was
abbrev pub room_after : Verdict → List ℕ → List ℕ → List ℕ
room_after (Ok tt) counts room = counts ++ replicate (length room - length counts) 0
room_after (Err r) counts room = room

-- what a spread of misses answers, the largest miss count, and what it leaves in the lent room
pub record MissSpreadAnswer : Type 0 where
  pub answer : Result Misses Refusal
  pub room : List ℕ

-- the same of a spread of hits
pub record HitSpreadAnswer : Type 0 where
  pub answer : Result Hits Refusal
  pub room : List ℕ

-- the spread of misses
unfoldable pub miss_spread_answer : List BestState → List ℕ → MissSpreadAnswer
miss_spread_answer row room =
    let m = largest misses_of row in
    let v = first (spread_reasons row m room) in
    record { answer = answer_or v (record { 0 = m }); room = room_after v (miss_spread row) room }

-- the spread of hits
unfoldable pub hit_spread_answer : List BestState → List ℕ → HitSpreadAnswer
hit_spread_answer row room =
    let h = largest hits_of row in
    let v = first (spread_reasons row h room) in
    record { answer = answer_or v (record { 0 = h }); room = room_after v (hit_spread row) room }
