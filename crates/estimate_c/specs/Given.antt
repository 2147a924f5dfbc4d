-- What a function for C gives: a number, and what stands behind each pointer and in each room afterwards. Of the answers themselves `given/specs/Answers.antt` says it.
use Rattle.std.specs.Prelude.{Bool, cond, List, ℕ, Result, Ok, Err}
use Rattle.rules.specs.declared.Refusal.{Refusal}
use Rattle.rules.specs.Answers.{number_of}
use Rattle.rules.specs.Questions.{SpreadAnswer}
use Rattle.listing.specs.Call.{ExpandingLeft}
use Rattle.estimate.specs.Call.{After}
use Rattle.recorder.specs.Calls.{ReadLeft, CountLeft}
use Rattle.night_rows.specs.declared.Report.{Report}
use Rattle.nightly.specs.Call.{BuildLeft}
use Rattle.printed.specs.Rooms.{Rooms, NumbersWritten, TextWritten}
use Rattle.given.specs.Answers.{OutcomeGiven, outcome_given, ValueGiven, count_given, ReadingGiven, reading_given, SizesGiven, sizes_given, bytes_of}

-- ---- the graph call: 0, or the refusal's number; how many states and how many units set aside; the two rooms

-- what is given of a graph call: its answer, and both rooms
pub record GraphGiven : Type 0 where
  pub answer : OutcomeGiven
  pub result : List ℕ
  pub work : List ℕ

-- of what the call leaves
abbrev pub graph_given : After → ℕ → ℕ → GraphGiven
graph_given a states aside = record { answer = outcome_given a.answer states aside; result = a.result; work = a.work }

-- ---- a spread: 0, or the refusal's number; its value; and the room

-- a value with the room that was lent to its call
pub record RoomGiven : Type 0 where
  pub answer : ValueGiven
  pub room : List ℕ

-- of what the spread answers and leaves
abbrev pub spread_given : SpreadAnswer → ℕ → RoomGiven
spread_given s value = record { answer = count_given s.answer value; room = s.room }

-- ---- a yes or no

-- yes is 1, no is 0
abbrev pub yes_given : Bool → ℕ
yes_given b = cond b 1 0

-- ---- a trace: 0, or the refusal's number; its values; and the room

-- what is given of reading: its answer, and the room
pub record ReadGiven : Type 0 where
  pub answer : ReadingGiven
  pub room : List ℕ

-- of what reading leaves
abbrev pub read_given : ReadLeft → ℕ → ℕ → ReadGiven
read_given a count place = record { answer = reading_given a.answer count place; room = a.room }

-- listing, writing: how many blocks are damaged, or were written
abbrev pub blocks_given : Result ℕ Refusal → ℕ → ValueGiven
blocks_given (Ok n) value = record { number = 0; value = n }
blocks_given (Err r) value = record { number = number_of r; value = value }

-- of what they leave
abbrev pub counted_given : CountLeft → ℕ → RoomGiven
counted_given a value = record { answer = blocks_given a.answer value; room = a.room }

-- ---- the graph of a listing: 0, or the refusal's number; how many nodes, accesses and edges; the three rooms

-- what is given of the call: its answer, and the rooms
pub record ListingGiven : Type 0 where
  pub answer : SizesGiven
  pub runs : List ℕ
  pub accesses : List ℕ
  pub edges : List ℕ

-- of what the call leaves
abbrev pub listing_given : ExpandingLeft → ℕ → ℕ → ℕ → ListingGiven
listing_given a nodes access_count edge_count =
    record { answer = sizes_given a.answer nodes access_count edge_count; runs = a.runs; accesses = a.accesses; edges = a.edges }

-- ---- a curve's text: how many bytes it has, or 0 where a room is too short; and the rooms

-- what is given of a list of numbers: how many bytes were written, and the rooms
pub record NumbersGiven : Type 0 where
  pub bytes : ℕ
  pub rooms : Rooms

-- of what the call for numbers leaves
abbrev pub numbers_given : NumbersWritten → NumbersGiven
numbers_given a = record { bytes = bytes_of a.answer; rooms = a.rooms }

-- what is given of a text: the same, and the room for its numbers
pub record TextGiven : Type 0 where
  pub bytes : ℕ
  pub numbers : List ℕ
  pub rooms : Rooms

-- of what the call for a text leaves, with the room for numbers
abbrev pub text_given : TextWritten → TextGiven
text_given a = record { bytes = bytes_of a.answer; numbers = a.numbers; rooms = a.rooms }

-- ---- the nightly build: 0, or the refusal's number; the report; the rows and the working room

-- what is given of it
pub record NightlyGiven : Type 0 where
  pub number : ℕ
  pub report : Report
  pub rows : List ℕ
  pub work : List ℕ

-- of its answer, with the report that stood behind the pointers, and the rooms as they are now
abbrev pub built_given : Result Report Refusal → Report → List ℕ → List ℕ → NightlyGiven
built_given (Ok a) report rows work = record { number = 0; report = a; rows = rows; work = work }
built_given (Err r) report rows work = record { number = number_of r; report = report; rows = rows; work = work }

-- of what the call leaves
abbrev pub nightly_given : BuildLeft → Report → NightlyGiven
nightly_given a report = built_given a.answer report a.rows a.work
