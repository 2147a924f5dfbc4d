-- What is printed for numbers that are complete and accepted: the lines of the finished table of what they mean, in misses, and in cycles with the longest path's accesses.
use Rattle.std.specs.Prelude.{Ok}
use mathlib.Core.Path.{◌≡◌, sym, ap₂}
use mathlib.Core.Bool.{Bool, true, cond}
use mathlib.Core.List.{List, ◌++◌}
use Prim.Native.Nat.{ℕ}
use lib.ListN.{length}
use Rattle.rules.specs.declared.Refusal.TheVariants.{Text}
use Rattle.rules.specs.Answers.{number_of, Verdict}
use Rattle.rules.specs.Input.{Input}
use Rattle.rules.specs.Graph.{finished}
use Rattle.rules.specs.Refusals.{verdict}
use Rattle.rules.specs.Cycles.{cores}
use Rattle.rules.specs.Longest.{longest}
use Rattle.curve_numbers.specs.declared.Choice.{Choice}
use Rattle.curve_numbers.specs.Parts.{complete, input_from}
use Rattle.writing.specs.Writing.{refused_line}
use Rattle.writing.specs.Told.{told}
use Rattle.lines.specs.Lines.{head_line, lines_below, curve_lines}
use Rattle.lines.specs.Cores.{longest_line, core_lines}
use Rattle.printed.specs.Printed.{of_input, of_numbers}
use Rattle.printed.specs.Curve.{curve}
use Rattle.printed.specs.Cycles.{in_cycles}

module _ (ch : Choice) (ns : List ℕ) (ok : complete ns ≡ true) (accepted : verdict (input_from ch ns) ≡ Ok tt) where
  abbrev i : Input
  i = input_from ch ns

  is_printed : (text : Input → List ℕ) → text i ≡ of_numbers text ch ns
  unfolding of_numbers of_input
  is_printed text = sym (ap₂ (λ (b : Bool) (v : Verdict). cond b (told v (text i)) (refused_line (number_of Text))) ok accepted)

  pub curve_printed : head_line (length (finished i).table) (finished i).aside ++ curve_lines (finished i).table ≡ of_numbers curve ch ns
  unfolding curve
  curve_printed = is_printed curve

  pub cycles_printed : longest_line (length (finished i).table) (finished i).aside (longest i) ++ lines_below (core_lines (longest i) (finished i).table) (length cores)
      ≡ of_numbers in_cycles ch ns
  unfolding in_cycles
  cycles_printed = is_printed in_cycles
