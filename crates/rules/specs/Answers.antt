-- Answers: document 01's number and values for each of their cases, and how the first reason to refuse is found.
use Rattle.std.specs.Prelude.{Bool, cond, List, [], ◌∷◌, ℕ, ⊤, Result, Ok, Err}
use Rattle.rules.specs.declared.Refusal.{Refusal}
use Rattle.rules.specs.declared.Refusal.TheVariants.{Text, Ways, Limit, Tracked, Accesses, Graph, Room, Row, SpreadRoom, Sets, Revision, NoCore, UntrackedAccess, SecondRevision, TraceLength, TraceRoom, ListingRoom, Listing, Expansion, Nightly, Pairing}
use Rattle.rules.specs.declared.Units.{Units}
use Rattle.rules.specs.declared.Misses.{Misses}
use Rattle.rules.specs.declared.Hits.{Hits}
use Rattle.rules.specs.declared.Finished.{Finished}

-- accepted, or refused
abbrev pub Verdict : Type 0
Verdict = Result ⊤ Refusal

-- the graph call's answer: the finished table's number of states and its set-aside count, or a refusal
abbrev pub Outcome : Type 0
Outcome = Result Finished Refusal

-- the number of a refusal: section 5's, and document 02's
abbrev pub number_of : Refusal → ℕ
number_of Text = 9
number_of Ways = 1
number_of Limit = 2
number_of Tracked = 3
number_of Accesses = 4
number_of Graph = 5
number_of Room = 6
number_of Row = 7
number_of SpreadRoom = 8
number_of Sets = 10
number_of Revision = 11
number_of NoCore = 16
number_of UntrackedAccess = 17
number_of SecondRevision = 18
number_of TraceLength = 12
number_of TraceRoom = 21
number_of ListingRoom = 22
number_of Listing = 14
number_of Expansion = 15
number_of Pairing = 19
number_of Nightly = 20

-- ---- the first that applies

-- whether a reason applies, and the refusal that it gives
pub record Reason : Type 0 where
  pub applies : Bool
  pub gives : Refusal

-- r is given where b holds
abbrev pub when : Bool → Refusal → Reason
when b r = record { applies = b; gives = r }

-- reasons are checked in order
abbrev pub first : List Reason → Verdict
first [] = Ok tt
first (r ∷ rs) = cond r.applies (Err r.gives) (first rs)

-- what is answered where nothing is refused, or the refusal
abbrev pub answer_or : {A : Type 0} → Verdict → A → Result A Refusal
answer_or (Ok tt) a = Ok a
answer_or (Err r) a = Err r

-- ---- what each answer says

-- what a verdict says: 0, or the refusal's number
abbrev pub verdict_says : Verdict → ℕ
verdict_says (Ok tt) = 0
verdict_says (Err r) = number_of r

-- what an outcome says: 0, the number of states and the set-aside count; or the refusal's number and nothing else
pub record OutcomeSays : Type 0 where
  pub number : ℕ
  pub states : ℕ
  pub aside : ℕ

-- of the graph call's outcome
abbrev pub outcome_says : Outcome → OutcomeSays
outcome_says (Ok f) = record { number = 0; states = f.states; aside = f.aside.0 }
outcome_says (Err r) = record { number = number_of r; states = 0; aside = 0 }

-- what an answer to a question says: 0 and the value; or the refusal's number and nothing else
pub record AnswerSays : Type 0 where
  pub number : ℕ
  pub value : ℕ

-- of an answer that is a number: misses, cycles, accesses, or the states of the best case's outcome
abbrev pub number_says : Result ℕ Refusal → AnswerSays
number_says (Ok n) = record { number = 0; value = n }
number_says (Err r) = record { number = number_of r; value = 0 }

-- of an answer in units
abbrev pub amount_says : Result Units Refusal → AnswerSays
amount_says (Ok u) = record { number = 0; value = u.0 }
amount_says (Err r) = record { number = number_of r; value = 0 }

-- of the best case's answers in misses, and in hits
abbrev pub miss_count_says : Result Misses Refusal → AnswerSays
miss_count_says (Ok m) = record { number = 0; value = m.0 }
miss_count_says (Err r) = record { number = number_of r; value = 0 }

-- what an answer about hits says
abbrev pub hit_count_says : Result Hits Refusal → AnswerSays
hit_count_says (Ok h) = record { number = 0; value = h.0 }
hit_count_says (Err r) = record { number = number_of r; value = 0 }
