-- What the inner functions do for each other, from the graph call to the text: no public contract rests on these.
use Rattle.std.specs.Prelude.{◌≡◌, true, List, ◌++◌, ℕ, suc, ◌≤◌, length, take, Ok}
use Rattle.rules.specs.declared.State.{State}
use Rattle.rules.specs.declared.Units.{Units}
use Rattle.rules.specs.Questions.{is_table, largest, spread}
use Rattle.rules.specs.Refusals.{verdict}
use Rattle.rules.specs.Cycles.{cores}
use Rattle.rules.specs.Longest.{longest}
use Rattle.words.specs.Tables.{table_of}
use Rattle.curve_numbers.specs.declared.Choice.{Choice}
use Rattle.curve_numbers.specs.Parts.{complete, input_from}
use Rattle.lines.specs.Lines.{head_line, lines_below, curve_lines}
use Rattle.printed.specs.Printed.{of_numbers}
use Rattle.printed.specs.Curve.{curve}
use Rattle.lines.specs.Cores.{longest_line, core_lines}
use Rattle.printed.specs.Cycles.{in_cycles}

-- the spread of the table T stands at the front of the counts, n numbers
pub record Counted (T : List State) (n : ℕ) (counts : List ℕ) : Type 0 where
  pub count : n ≡ suc (largest T)
  pub spread : take n counts ≡ spread T

-- the call left a finished table of so many states in the result room, with so many units set aside: the numbers are complete, the input is accepted, the longest path covers
-- every miss count of the table, and this is what is printed
pub record Finishes (ch : Choice) (ns result : List ℕ) (states : ℕ) (aside : Units) : Type 0 where
  pub whole : complete ns ≡ true
  pub accepted : verdict (input_from ch ns) ≡ Ok tt
  pub table : is_table (take states (table_of result)) ≡ true
  pub covered : largest (take states (table_of result)) ≤ longest (input_from ch ns)
  pub few : longest (input_from ch ns) ≤ 4096
  pub curve_is : head_line states aside.0 ++ curve_lines (take states (table_of result)) ≡ of_numbers curve ch ns
  pub cycles_are : (L : ℕ) → L ≡ longest (input_from ch ns)
      → longest_line states aside.0 L ++ lines_below (core_lines L (take states (table_of result))) (length cores) ≡ of_numbers in_cycles ch ns
