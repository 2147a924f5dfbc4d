-- `put_text` meets its contract: 9 for what is malformed, and otherwise the text that is wanted of the numbers that were read.
use mathlib.Core.Path.{refl}
use native.Mathlib.Omega.{arith}
use Rattle.writing.proofs.Putting.{put_is}
use Rattle.writing.proofs.Told.{text_malformed, malformed_unworked, numbers_few, numbers_long, text_read, read_worked}
use Rattle.printed.proofs.Rooms.{wrote_refused, wrote_same}
use Rattle.text.proofs.working.put_text.Goals as goal

pub slice_bounds-put_form-end : goal.slice_bounds-put_form-end
slice_bounds-put_form-end c =
    omega (arith, numbers_few _ _ c.requires.0 _ _ c.read_numbers.ensures _ c.in-Some.is, c.read_numbers.auto.numbers)

pub slice_bounds-put_form-end-in-Some : goal.slice_bounds-put_form-end-in-Some
slice_bounds-put_form-end-in-Some c = numbers_long _ _ c.requires.0 _ _ c.read_numbers.ensures _ c.in-Some.is

pub returns-in-None : goal.returns-in-None
returns-in-None c =
    wrote_refused _ _ _ _ _ (malformed_unworked _ _ c.requires.0 _ _ c.read_numbers.ensures _ c.in-None.is)
    (put_is _ _ _ _ _ _ c.put_refused.ensures (text_malformed _ _ c.requires.0 _ _ c.read_numbers.ensures _ c.in-None.is)) refl refl refl

pub returns-in-Some : goal.returns-in-Some
returns-in-Some c =
    wrote_same _ _ _ _ _ _ _ c.put_form.ensures (read_worked _ _ c.requires.0 _ _ c.read_numbers.ensures _ c.in-Some.is _)
    (text_read _ _ c.requires.0 _ _ c.read_numbers.ensures _ c.in-Some.is _)
