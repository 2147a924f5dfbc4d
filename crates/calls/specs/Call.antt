-- What a call leaves: its answer, and the two rooms that were lent.
use Rattle.std.specs.Prelude.{cond, List, ◌++◌, ℕ, ◌-◌, ◌*◌, ◌/◌, eqb, length, replicate, Err, Ok}
use Rattle.rules.specs.declared.Cache.{Cache}
use Rattle.rules.specs.declared.State.{State}
use Rattle.rules.specs.Input.{Input, input_in}
use Rattle.rules.specs.Answers.{number_of, Outcome, Verdict}
use Rattle.rules.specs.Table.{Work}
use Rattle.rules.specs.Graph.{finished, finished_by}
use Rattle.rules.specs.Refusals.{verdict, outcome}
use Rattle.rules.specs.Entries.{entry_of, paired_verdict, paired_outcome}
use Rattle.words.specs.Tables.{words_of}

-- what a graph call leaves: its answer, and the words of both rooms then
pub record After : Type 0 where
  pub answer : Outcome
  pub result : List ℕ
  pub work : List ℕ

-- the table T in a room of n words: five words a state, then zeros
abbrev pub written : List State → ℕ → List ℕ
written T n = words_of T ++ replicate (n - length T * 5) 0

-- an accepted call leaves the finished table in the result room, and zeros in the working room; a refused one leaves both as they were
abbrev pub leaves : Verdict → Input → List ℕ → List ℕ → After
leaves (Ok tt) i result work = record { answer = outcome i; result = written (finished i).table (length result); work = replicate (length work) 0 }
leaves (Err r) i result work = record { answer = outcome i; result = result; work = work }

-- what comes in, of two rooms with five words to a state
abbrev pub handed : Cache → ℕ → List ℕ → List ℕ → List ℕ → List ℕ → List ℕ → List ℕ → Input
handed c K ts ns bs es result work = input_in c K ts ns bs es (length result / 5) (length work / 5)

-- the cache c, at most K states, the tracked blocks ts, the run lengths ns, the accesses bs, the edges es, and the two rooms
unfoldable pub analysed : Cache → ℕ → List ℕ → List ℕ → List ℕ → List ℕ → List ℕ → List ℕ → After
analysed c K ts ns bs es result work = let i = handed c K ts ns bs es result work in leaves (verdict i) i result work

-- ---- with a pairing or none for each join: document 02, request 11/13

-- accepted, the finished table w and zeros in the working room; refused, the result room as it was, and the working room as it was but for 19, where it
-- becomes zero
abbrev pub paired_leaves : Verdict → Outcome → Work → List ℕ → List ℕ → After
paired_leaves (Ok tt) answer w result work = record { answer = answer; result = written w.table (length result); work = replicate (length work) 0 }
paired_leaves (Err r) answer w result work =
    record { answer = answer; result = result; work = cond (eqb (number_of r) 19) (replicate (length work) 0) work }

-- the numbers of rows qs and the rows rs beside what the call without them takes
unfoldable pub analysed_paired : Cache → ℕ → List ℕ → List ℕ → List ℕ → List ℕ → List ℕ → List ℕ → List ℕ → List ℕ → After
analysed_paired c K ts ns bs es qs rs result work =
    let i = handed c K ts ns bs es result work in
    paired_leaves (paired_verdict i qs rs) (paired_outcome i qs rs) (finished_by (entry_of qs rs) i) result work
