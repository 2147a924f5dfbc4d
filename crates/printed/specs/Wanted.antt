-- Which text is wanted: what an accepted input prints, the bytes that are surely enough for it, and what is left after it.
use Rattle.std.specs.Prelude.{List, ℕ}
use Rattle.rules.specs.Input.{Input}
use Rattle.printed.specs.declared.Wanted.{Wanted}
use Rattle.printed.specs.declared.Wanted.TheVariants.{Misses, Cycles}
use Rattle.printed.specs.declared.Form.{Form}
use Rattle.writing.specs.Told.{of_text, text_worked}
use Rattle.printed.specs.Printed.{of_numbers, numbers_worked}
use Rattle.printed.specs.Choices.{plain, of_form, form_worked}
use Rattle.printed.specs.Curve.{curve}
use Rattle.printed.specs.Cycles.{in_cycles}
use Rattle.printed.specs.Rooms.{Rooms, enough, curve_bytes, cycles_bytes, NumbersWritten, written, TextWritten, text_written}

-- what an accepted input prints
abbrev pub wanted_text : Wanted → Input → List ℕ
wanted_text Misses = curve
wanted_text Cycles = in_cycles

-- the bytes that are surely enough for it
abbrev pub wanted_bytes : Wanted → ℕ
wanted_bytes Misses = curve_bytes
wanted_bytes Cycles = cycles_bytes

-- what a call for numbers leaves
abbrev pub wanted_after : Wanted → List ℕ → Rooms → NumbersWritten
wanted_after w ns r = written (enough (wanted_bytes w) r) (numbers_worked plain ns) (of_numbers (wanted_text w) plain ns) r

-- what a call for a text leaves, whose numbers have the form f
abbrev pub wanted_after_text : Form → Wanted → List ℕ → List ℕ → Rooms → TextWritten
wanted_after_text f w text numbers r =
    text_written (enough (wanted_bytes w) r) (text_worked (form_worked f) text) (of_text (of_form f (wanted_text w)) text) numbers r
