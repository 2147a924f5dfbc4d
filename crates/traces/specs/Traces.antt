-- What is said of a trace, as text: document 02, request 7/13. Its accesses, or the places of its damaged blocks; or a refusal.
use Rattle.std.specs.Prelude.{Bool, true, false, List, [], ◌∷◌, ◌++◌, ℕ, ◌+◌, ◌*◌, leb, length, take, drop, Result, Ok, Err, Option, Some, None}
use Rattle.rules.specs.declared.Refusal.{Refusal}
use Rattle.rules.specs.Answers.{number_of}
use Rattle.recorder.specs.declared.Reading.{Reading}
use Rattle.recorder.specs.declared.Reading.TheVariants.{Accesses, Damaged}
use Rattle.recorder.specs.Calls.{reading_says, trace_read, trace_listed}
use Rattle.writing.specs.Writing.{decimal, refused_word, refused_line, numbers_line}

-- "accesses "
abbrev pub accesses_word : List ℕ
accesses_word = 97 ∷ 99 ∷ 99 ∷ 101 ∷ 115 ∷ 115 ∷ 101 ∷ 115 ∷ 32 ∷ []

-- "damaged "
abbrev pub damaged_word : List ℕ
damaged_word = 100 ∷ 97 ∷ 109 ∷ 97 ∷ 103 ∷ 101 ∷ 100 ∷ 32 ∷ []

-- ---- the lines

-- a word and a number on a line
unfoldable pub named_line : List ℕ → ℕ → List ℕ
named_line word n = word ++ decimal n ++ (10 ∷ [])

-- the refusal of a damaged block: its number, and the place of the block
unfoldable pub damaged_line : ℕ → List ℕ
damaged_line p = refused_word ++ decimal (reading_says (Ok (Damaged p))).number ++ (32 ∷ []) ++ decimal p ++ (10 ∷ [])

-- ---- the text

-- of what reading answers, and of the room that it leaves: how many accesses, and they; or its refusal
abbrev pub reading_text : Result Reading Refusal → List ℕ → List ℕ
reading_text (Ok (Accesses n)) room = named_line accesses_word n ++ numbers_line (take n room)
reading_text (Ok (Damaged p)) room = damaged_line p
reading_text (Err r) room = refused_line (number_of r)

-- of what listing answers and leaves: how many damaged blocks, and their places; or its refusal
abbrev pub listing_text : Result ℕ Refusal → List ℕ → List ℕ
listing_text (Ok n) room = named_line damaged_word n ++ numbers_line (take n room)
listing_text (Err r) room = refused_line (number_of r)

-- ---- what a call leaves

-- the answer, the room for accesses or places, and the room for the text
pub record TraceTold : Type 0 where
  pub answer : Option ℕ
  pub room : List ℕ
  pub output : List ℕ

-- bytes that are surely enough where there is room for n numbers: a first line of at most 63, and 21 for each number
abbrev pub trace_bytes : ℕ → ℕ
trace_bytes n = 63 + n * 21

-- where the output is long enough the text is at its front, and the room is as the trace's call left it; otherwise nothing is written
abbrev pub told_of : Bool → List ℕ → List ℕ → List ℕ → List ℕ → TraceTold
told_of true text left room output = record { answer = Some (length text); room = left; output = text ++ drop (length text) output }
told_of false text left room output = record { answer = None; room = room; output = output }

-- after the text of a trace's accesses
unfoldable pub accesses_told : List ℕ → List ℕ → List ℕ → TraceTold
accesses_told trace room output =
    let a = trace_read trace room in
    told_of (leb (trace_bytes (length room)) (length output)) (reading_text a.answer a.room) a.room room output

-- after the text of its damaged blocks
unfoldable pub damaged_told : List ℕ → List ℕ → List ℕ → TraceTold
damaged_told trace room output =
    let a = trace_listed trace room in
    told_of (leb (trace_bytes (length room)) (length output)) (listing_text a.answer a.room) a.room room output
