-- What a call leaves: its answer, and the two rooms that were lent.
use Rattle.std.specs.Prelude.{List, ◌++◌, ℕ, ◌-◌, ◌*◌, ◌/◌, length, replicate, Err, Ok, Result}
use Rattle.rules.specs.declared.Refusal.{Refusal}
use Rattle.rules.specs.declared.BestState.{BestState}
use Rattle.rules.specs.declared.Start.TheVariants.{Cold as cold}
use Rattle.rules.specs.Answers.{Verdict}
use Rattle.rules.specs.Input.{Input, cache, input_in}
use Rattle.rules.specs.Best.{best_table}
use Rattle.rules.specs.Refusals.{best_verdict, best_outcome}
use Rattle.words.specs.BestTables.{words_of}

-- what the best case's call leaves: its answer, and the words of both rooms then
pub record After : Type 0 where
  pub answer : Result ℕ Refusal
  pub result : List ℕ
  pub work : List ℕ

-- the table T in a room of n words: five words a state, then zeros
abbrev pub written : List BestState → ℕ → List ℕ
written T n = words_of T ++ replicate (n - length T * 5) 0

-- an accepted call leaves the finished table in the result room, and zeros in the working room; a refused one leaves both as they were
abbrev pub leaves : Verdict → Input → List ℕ → List ℕ → After
leaves (Ok tt) i result work =
    record { answer = best_outcome i; result = written (best_table i) (length result); work = replicate (length work) 0 }
leaves (Err r) i result work = record { answer = best_outcome i; result = result; work = work }

-- what comes in, of two rooms with five words to a state: Z sets of N ways, revision v
abbrev pub handed : ℕ → ℕ → ℕ → ℕ → List ℕ → List ℕ → List ℕ → List ℕ → List ℕ → List ℕ → Input
handed Z N v K ts ns bs es result work = input_in (cache Z N v cold) K ts ns bs es (length result / 5) (length work / 5)

-- Z sets of N ways, revision v, at most K states, the tracked blocks ts, the run lengths ns, the accesses bs, the edges es, and the two rooms
unfoldable pub best_analysed : ℕ → ℕ → ℕ → ℕ → List ℕ → List ℕ → List ℕ → List ℕ → List ℕ → List ℕ → After
best_analysed Z N v K ts ns bs es result work = let i = handed Z N v K ts ns bs es result work in leaves (best_verdict i) i result work
