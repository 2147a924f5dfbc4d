-- What the functions of the best case give to C, as `Given` has it for the others: a number, and what stands behind each pointer afterwards.
use Rattle.std.specs.Prelude.{List, ℕ, Err, Ok, Result}
use Rattle.rules.specs.declared.Refusal.{Refusal}
use Rattle.rules.specs.declared.Misses.{Misses}
use Rattle.rules.specs.declared.Hits.{Hits}
use Rattle.rules.specs.Answers.{number_of}
use Rattle.rules.specs.BestQuestions.{MissSpreadAnswer, HitSpreadAnswer}
use Rattle.best.specs.Call.{After}
use Rattle.given.specs.Answers.{ValueGiven}
use Rattle.estimate_c.specs.Given.{RoomGiven}

-- ---- the call: 0, or the refusal's number; how many states; the two rooms

-- what is given of it: the number, what stands behind the pointer, and both rooms
pub record BestGiven : Type 0 where
  pub number : ℕ
  pub states : ℕ
  pub result : List ℕ
  pub work : List ℕ

-- of its answer, with what stood behind the pointer, and the rooms as they are now
abbrev pub best_outcome_given : Result ℕ Refusal → ℕ → List ℕ → List ℕ → BestGiven
best_outcome_given (Ok n) states result work = record { number = 0; states = n; result = result; work = work }
best_outcome_given (Err r) states result work = record { number = number_of r; states = states; result = result; work = work }

-- of what the call leaves
abbrev pub best_given : After → ℕ → BestGiven
best_given a states = best_outcome_given a.answer states a.result a.work

-- ---- the spreads: 0, or the refusal's number; the largest count; the room

-- misses
abbrev pub misses_given : Result Misses Refusal → ℕ → ValueGiven
misses_given (Ok m) value = record { number = 0; value = m.0 }
misses_given (Err r) value = record { number = number_of r; value = value }

-- hits
abbrev pub hits_given : Result Hits Refusal → ℕ → ValueGiven
hits_given (Ok h) value = record { number = 0; value = h.0 }
hits_given (Err r) value = record { number = number_of r; value = value }

-- of what the spread of misses answers and leaves
abbrev pub miss_spread_given : MissSpreadAnswer → ℕ → RoomGiven
miss_spread_given s value = record { answer = misses_given s.answer value; room = s.room }

-- of the spread of hits
abbrev pub hit_spread_given : HitSpreadAnswer → ℕ → RoomGiven
hit_spread_given s value = record { answer = hits_given s.answer value; room = s.room }
