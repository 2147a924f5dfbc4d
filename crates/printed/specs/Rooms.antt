-- What a call leaves: its answer, and the rooms that were lent.
use Rattle.std.specs.Prelude.{◌≡◌, Bool, true, false, ◌&&◌, List, ◌++◌, ℕ, leb, length, drop, Option, Some, None}
use Rattle.writing.specs.Put.{Put}
use Rattle.writing.specs.Told.{text_worked, zero_if}
use Rattle.printed.specs.Printed.{numbers_worked}
use Rattle.printed.specs.Choices.{plain, chosen_worked}
use Rattle.printed.specs.Curve.{curve_of_numbers, curve_of_text, curve_of_chosen_text}
use Rattle.printed.specs.Cycles.{cycles_of_numbers, cycles_of_text, cycles_of_chosen_text}

-- the rooms that are worked in, and the room for the text
pub record Rooms : Type 0 where
  pub result : List ℕ
  pub work : List ℕ
  pub counts : List ℕ
  pub output : List ℕ

-- how many words they have to have, and how many bytes, `bytes` being surely enough for the text
abbrev pub long_enough : ℕ → ℕ → ℕ → ℕ → ℕ → Bool
long_enough bytes result work counts output = leb 320 result && leb 25920 work && leb 4097 counts && leb bytes output

-- whether rooms are long enough
abbrev pub enough : ℕ → Rooms → Bool
enough bytes r = long_enough bytes (length r.result) (length r.work) (length r.counts) (length r.output)

-- surely enough for the curve: a line of at most 55 bytes, and 4,097 of at most 63
abbrev pub curve_bytes : ℕ
curve_bytes = 262144

-- surely enough for the curves in cycles: one of at most 84, and for each core one of at most 77 and 4,097 of at most 63
abbrev pub cycles_bytes : ℕ
cycles_bytes = 3145728

-- the text was put at the front of the output, r bytes, and the rooms a became b: what was worked in is zero
pub record Wrote (worked : Bool) (text : List ℕ) (r : ℕ) (a b : Rooms) : Type 0 where
  pub put : Put text 0 r a.output b.output
  pub result : b.result ≡ zero_if worked a.result
  pub work : b.work ≡ zero_if worked a.work
  pub counts : b.counts ≡ zero_if worked a.counts

-- ---- a list of numbers

-- the answer, how many bytes were written, or None because a room is too short; and the rooms then
pub record NumbersWritten : Type 0 where
  pub answer : Option ℕ
  pub rooms : Rooms

-- where the rooms are long enough, the text is at the front of the output, and all that was worked in is zero; otherwise nothing is written
abbrev pub written : Bool → Bool → List ℕ → Rooms → NumbersWritten
written true worked text r =
    record {
      answer = Some (length text);
      rooms = record {
        result = zero_if worked r.result;
        work = zero_if worked r.work;
        counts = zero_if worked r.counts;
        output = text ++ drop (length text) r.output;
      };
    }
written false worked text r = record { answer = None; rooms = r }

-- after the curve
unfoldable pub after_numbers : List ℕ → Rooms → NumbersWritten
after_numbers ns r = written (enough curve_bytes r) (numbers_worked plain ns) (curve_of_numbers ns) r

-- after the curves in cycles
unfoldable pub after_cycles_of_numbers : List ℕ → Rooms → NumbersWritten
after_cycles_of_numbers ns r = written (enough cycles_bytes r) (numbers_worked plain ns) (cycles_of_numbers ns) r

-- ---- a text, which needs room for its numbers too

-- the answer, the room for numbers and the other rooms then
pub record TextWritten : Type 0 where
  pub answer : Option ℕ
  pub numbers : List ℕ
  pub rooms : Rooms

-- where it is long enough too, it is zero then, whatever was read; otherwise nothing is written
abbrev pub text_written : Bool → Bool → List ℕ → List ℕ → Rooms → TextWritten
text_written ok worked text numbers r =
    let all = leb 16384 (length numbers) && ok in
    let a = written all worked text r in
    record { answer = a.answer; numbers = zero_if all numbers; rooms = a.rooms }

-- after the curve
unfoldable pub after_text : List ℕ → List ℕ → Rooms → TextWritten
after_text text numbers r = text_written (enough curve_bytes r) (text_worked (numbers_worked plain) text) (curve_of_text text) numbers r

-- after the curves in cycles
unfoldable pub after_cycles_of_text : List ℕ → List ℕ → Rooms → TextWritten
after_cycles_of_text text numbers r = text_written (enough cycles_bytes r) (text_worked (numbers_worked plain) text) (cycles_of_text text) numbers r

-- after the curve, where the numbers begin with a choice
unfoldable pub after_chosen_text : List ℕ → List ℕ → Rooms → TextWritten
after_chosen_text text numbers r = text_written (enough curve_bytes r) (text_worked chosen_worked text) (curve_of_chosen_text text) numbers r

-- after the curves in cycles, where they do
unfoldable pub after_cycles_of_chosen_text : List ℕ → List ℕ → Rooms → TextWritten
after_cycles_of_chosen_text text numbers r = text_written (enough cycles_bytes r) (text_worked chosen_worked text) (cycles_of_chosen_text text) numbers r
