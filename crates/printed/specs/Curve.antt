-- The curve's text: document 01, section 7.
use Rattle.std.specs.Prelude.{List, ◌++◌, ℕ, length}
use Rattle.rules.specs.Input.{Input}
use Rattle.rules.specs.Graph.{finished}
use Rattle.writing.specs.Told.{of_text}
use Rattle.lines.specs.Lines.{head_line, curve_lines}
use Rattle.printed.specs.Printed.{of_numbers}
use Rattle.printed.specs.Choices.{plain, of_chosen}

-- of an accepted input
unfoldable pub curve : Input → List ℕ
curve i = let w = finished i in head_line (length w.table) w.aside ++ curve_lines w.table

-- of a list of numbers in the curve's order, or its refusal
abbrev pub curve_of_numbers : List ℕ → List ℕ
curve_of_numbers = of_numbers curve plain

-- of a text, or its refusal
abbrev pub curve_of_text : List ℕ → List ℕ
curve_of_text = of_text curve_of_numbers

-- of a text whose numbers begin with a choice, or its refusal
abbrev pub curve_of_chosen_text : List ℕ → List ℕ
curve_of_chosen_text = of_text (of_chosen curve)
