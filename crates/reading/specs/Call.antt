-- What a call leaves: its answer, and the room that was lent for the numbers.
use Rattle.std.specs.Prelude.{Bool, true, false, ◌&&◌, List, ◌++◌, ℕ, leb, length, drop, replicate, Option, Some, None}
use Rattle.reading.specs.Reading.{well_formed, numbers_in}

-- what reading leaves: its answer, how many numbers were read or None, and the room for numbers then
pub record ReadAnswer : Type 0 where
  pub answer : Option ℕ
  pub room : List ℕ

-- where the text can be read its numbers stand at the front of the room, and what is behind them is as it was; otherwise the room is zero
abbrev pub read_into : Bool → List ℕ → List ℕ → ReadAnswer
read_into true ns room = record { answer = Some (length ns); room = ns ++ drop (length ns) room }
read_into false ns room = record { answer = None; room = replicate (length room) 0 }

-- a text can be read that is well formed, into a room for 16,384 numbers, which is enough for every such text
unfoldable pub after_reading : List ℕ → List ℕ → ReadAnswer
after_reading text room = read_into (leb 16384 (length room) && well_formed text) (numbers_in text) room
