-- What a call leaves: its answer, and the room that was lent to it. A refusal leaves the room as it was.
use Rattle.std.specs.Prelude.{not, List, [], ◌∷◌, ◌++◌, ℕ, ◌-◌, ◌*◌, ◌/◌, ◌%◌, eqb, ltb, length, replicate, Result, Ok, Err}
use Rattle.rules.specs.declared.Refusal.{Refusal}
use Rattle.rules.specs.declared.Refusal.TheVariants.{Accesses as TooMany, TraceLength, TraceRoom}
use Rattle.rules.specs.Answers.{number_of, Reason, when, first, AnswerSays, Verdict}
use Rattle.recorder.specs.declared.Reading.{Reading}
use Rattle.recorder.specs.declared.Reading.TheVariants.{Accesses, Damaged}
use Rattle.recorder.specs.Traces.{said, damaged_places}
use Rattle.recorder.specs.Written.{blocks_for, trace_of}

-- ---- what each answer says: 0 and a value, or the number of the refusal

-- reading: how many accesses; or 13 and the place of the first damaged block
abbrev pub reading_says : Result Reading Refusal → AnswerSays
reading_says (Ok (Accesses n)) = record { number = 0; value = n }
reading_says (Ok (Damaged p)) = record { number = 13; value = p }
reading_says (Err r) = record { number = number_of r; value = 0 }

-- listing, writing: how many blocks are damaged, or were written
abbrev pub counted_says : Result ℕ Refusal → AnswerSays
counted_says (Ok n) = record { number = 0; value = n }
counted_says (Err r) = record { number = number_of r; value = 0 }

-- ---- the first reason to refuse

-- of a trace handed in: 12, its bytes are no whole blocks; 21, the room has fewer than `each` places a block
abbrev pub trace_reasons : ℕ → ℕ → ℕ → List Reason
trace_reasons each bytes room = when (not (eqb (bytes % 512) 0)) TraceLength ∷ when (ltb room (bytes / 512 * each)) TraceRoom ∷ []

-- of accesses to be written: 4, they are more than 4,096; 21, the room, in bytes, is too short for their blocks
abbrev pub write_reasons : ℕ → ℕ → List Reason
write_reasons accesses room = when (ltb 4096 accesses) TooMany ∷ when (ltb room (blocks_for accesses * 512)) TraceRoom ∷ []

-- ---- the calls

-- xs at the front of the room, and zero beyond them
unfoldable pub zero_beyond : List ℕ → List ℕ → List ℕ
zero_beyond xs room = xs ++ replicate (length room - length xs) 0

-- the answer of reading, and the room for accesses
pub record ReadLeft : Type 0 where
  pub answer : Result Reading Refusal
  pub room : List ℕ

-- by the reason to refuse, the places of the damaged blocks, and the accesses that the trace says: 13 for the first damaged block, or the accesses in the room
abbrev pub read_leaves : Verdict → List ℕ → List ℕ → List ℕ → ReadLeft
read_leaves (Err r) ps xs room = record { answer = Err r; room = room }
read_leaves (Ok tt) (p ∷ ps) xs room = record { answer = Ok (Damaged p); room = room }
read_leaves (Ok tt) [] xs room = record { answer = Ok (Accesses (length xs)); room = zero_beyond xs room }

-- what reading a trace leaves
unfoldable pub trace_read : List ℕ → List ℕ → ReadLeft
trace_read trace room = read_leaves (first (trace_reasons 125 (length trace) (length room))) (damaged_places trace) (said trace) room

-- the answer of listing or writing, and the room for places or for the trace
pub record CountLeft : Type 0 where
  pub answer : Result ℕ Refusal
  pub room : List ℕ

-- by the reason to refuse: n is answered, and xs are at the front of the room
abbrev pub count_leaves : Verdict → ℕ → List ℕ → List ℕ → CountLeft
count_leaves (Err r) n xs room = record { answer = Err r; room = room }
count_leaves (Ok tt) n xs room = record { answer = Ok n; room = zero_beyond xs room }

-- what listing the damaged blocks of a trace leaves
unfoldable pub trace_listed : List ℕ → List ℕ → CountLeft
trace_listed trace room = count_leaves (first (trace_reasons 1 (length trace) (length room))) (length (damaged_places trace)) (damaged_places trace) room

-- what writing accesses leaves
unfoldable pub trace_written : List ℕ → List ℕ → CountLeft
trace_written xs room = count_leaves (first (write_reasons (length xs) (length room))) (blocks_for (length xs)) (trace_of xs) room
