-- Curves in cycles as text: document 02, request 9/13.
use Rattle.std.specs.Prelude.{List, ◌++◌, ℕ, length}
use Rattle.rules.specs.Input.{Input}
use Rattle.rules.specs.Graph.{finished}
use Rattle.rules.specs.Cycles.{cores}
use Rattle.rules.specs.Longest.{longest}
use Rattle.writing.specs.Told.{of_text}
use Rattle.lines.specs.Lines.{lines_below}
use Rattle.lines.specs.Cores.{longest_line, core_lines}
use Rattle.printed.specs.Printed.{of_numbers}
use Rattle.printed.specs.Choices.{plain, of_chosen}

-- of an accepted input: the first line, and the lines of each core in order
unfoldable pub in_cycles : Input → List ℕ
in_cycles i =
    let w = finished i in
    let L = longest i in
    longest_line (length w.table) w.aside L ++ lines_below (core_lines L w.table) (length cores)

-- of a list of numbers in the curve's order, or its refusal
abbrev pub cycles_of_numbers : List ℕ → List ℕ
cycles_of_numbers = of_numbers in_cycles plain

-- of a text, or its refusal
abbrev pub cycles_of_text : List ℕ → List ℕ
cycles_of_text = of_text cycles_of_numbers

-- of a text whose numbers begin with a choice, or its refusal
abbrev pub cycles_of_chosen_text : List ℕ → List ℕ
cycles_of_chosen_text = of_text (of_chosen in_cycles)
