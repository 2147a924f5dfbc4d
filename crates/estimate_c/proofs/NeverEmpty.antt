-- The text of a curve, in misses or in cycles, is never empty, so that 0 bytes mean that a room is too short, and nothing else: it begins with a word, `states` or
-- `refused`.
use Rattle.std.specs.Prelude.{Err, Ok}
use mathlib.Core.Bool.{Bool, true, false, cond}
use mathlib.Core.List.{List}
use Prim.Native.Nat.{ℕ, ◌<◌}
use native.Mathlib.Omega.{arith}
use lib.ListN.{length}
use Rattle.rules.specs.declared.Refusal.TheVariants.{Text}
use Rattle.rules.specs.Answers.{number_of, Verdict}
use Rattle.rules.specs.Input.{Input}
use Rattle.rules.specs.Refusals.{verdict}
use Rattle.curve_numbers.specs.Parts.{complete, input_from}
use Rattle.reading.specs.Reading.{well_formed, numbers_in}
use Rattle.writing.specs.Writing.{refused_line}
use Rattle.writing.specs.Told.{told, of_text}
use Rattle.lines.specs.Lines.{head_words}
use Rattle.printed.specs.Choices.{plain}
use Rattle.printed.specs.Printed.{of_input, of_numbers}
use Rattle.printed.specs.Curve.{curve, curve_of_numbers, curve_of_text}
use Rattle.lines.specs.Cores.{longest_line}
use Rattle.printed.specs.Cycles.{in_cycles, cycles_of_numbers, cycles_of_text}

refused_some : (n : ℕ) → 0 < length (refused_line n)
unfolding refused_line
refused_some n = omega arith

either_some : (b : Bool) (xs ys : List ℕ) → 0 < length xs → 0 < length ys → 0 < length (cond b xs ys)
either_some true xs ys p q = p
either_some false xs ys p q = q

-- where the text of an accepted input is not empty, what is printed is not
module _ (text : Input → List ℕ) (some : (i : Input) → 0 < length (text i)) where
  told_some : (v : Verdict) (i : Input) → 0 < length (told v (text i))
  told_some (Ok tt) i = some i
  told_some (Err r) i = refused_some (number_of r)

  numbers_some : (ns : List ℕ) → 0 < length (of_numbers text plain ns)
  unfolding of_numbers of_input
  numbers_some ns =
      let i = input_from plain ns in
      either_some (complete ns) (of_input text i) (refused_line (number_of Text)) (told_some (verdict i) i) (refused_some (number_of Text))

  text_some : (bytes : List ℕ) → 0 < length (of_text (of_numbers text plain) bytes)
  unfolding of_text
  text_some bytes =
      let ns = numbers_in bytes in
      either_some (well_formed bytes) (of_numbers text plain ns) (refused_line (number_of Text)) (numbers_some ns) (refused_some (number_of Text))

curve_some : (i : Input) → 0 < length (curve i)
unfolding curve head_words
curve_some i = omega arith

cycles_some : (i : Input) → 0 < length (in_cycles i)
unfolding in_cycles longest_line head_words
cycles_some i = omega arith

pub curve_never_empty : ((ns : List ℕ) → 0 < length (curve_of_numbers ns)) × ((bytes : List ℕ) → 0 < length (curve_of_text bytes))
curve_never_empty = (numbers_some curve curve_some, text_some curve curve_some)

pub cycles_never_empty : ((ns : List ℕ) → 0 < length (cycles_of_numbers ns)) × ((bytes : List ℕ) → 0 < length (cycles_of_text bytes))
cycles_never_empty = (numbers_some in_cycles cycles_some, text_some in_cycles cycles_some)
