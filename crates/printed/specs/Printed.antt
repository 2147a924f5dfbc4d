-- What is printed for the numbers of a curve: document 01, section 7. What is malformed is refused with 9, then the refusals of the graph call are given, then comes the
-- text of an accepted input: `text` is the curve, or the curves in cycles.
use Rattle.std.specs.Prelude.{Bool, cond, ◌&&◌, List, ℕ}
use Rattle.rules.specs.declared.Refusal.TheVariants.{Text}
use Rattle.rules.specs.Answers.{number_of}
use Rattle.rules.specs.Input.{Input}
use Rattle.rules.specs.Refusals.{verdict}
use Rattle.curve_numbers.specs.declared.Choice.{Choice}
use Rattle.curve_numbers.specs.Parts.{complete, input_from}
use Rattle.writing.specs.Writing.{refused_line}
use Rattle.writing.specs.Told.{told, accepts}

-- for an input
unfoldable pub of_input : (Input → List ℕ) → Input → List ℕ
of_input text i = told (verdict i) (text i)

-- for a list of numbers in the curve's order, where the cache is as chosen beside its ways
unfoldable pub of_numbers : (Input → List ℕ) → Choice → List ℕ → List ℕ
of_numbers text ch ns = cond (complete ns) (of_input text (input_from ch ns)) (refused_line (number_of Text))

-- whether they are worked: none is missing or left over, and the graph call accepts what they mean; everything else is refused
unfoldable pub numbers_worked : Choice → List ℕ → Bool
numbers_worked ch ns = complete ns && accepts (verdict (input_from ch ns))
