-- Which cache it is beside its ways: document 01's, or one that the numbers choose. What begins with no choice is malformed.
use Rattle.std.specs.Prelude.{Bool, cond, ◌&&◌, List, ℕ, drop}
use Rattle.rules.specs.declared.Refusal.TheVariants.{Text}
use Rattle.rules.specs.Answers.{number_of}
use Rattle.rules.specs.Input.{Input}
pub use Rattle.curve_numbers.specs.Parts.{plain}
use Rattle.curve_numbers.specs.Choices.{chooses, choice_in}
use Rattle.printed.specs.declared.Form.{Form}
use Rattle.printed.specs.declared.Form.TheVariants.{Plain, Chosen}
use Rattle.writing.specs.Writing.{refused_line}
use Rattle.printed.specs.Printed.{of_numbers, numbers_worked}

-- what is printed for numbers that begin with a choice: that of the numbers behind it
unfoldable pub of_chosen : (Input → List ℕ) → List ℕ → List ℕ
of_chosen text ns = cond (chooses ns) (of_numbers text (choice_in ns) (drop 3 ns)) (refused_line (number_of Text))

-- whether they are worked
unfoldable pub chosen_worked : List ℕ → Bool
chosen_worked ns = chooses ns && numbers_worked (choice_in ns) (drop 3 ns)

-- ---- numbers of either form

-- what is printed
abbrev pub of_form : Form → (Input → List ℕ) → List ℕ → List ℕ
of_form Plain text = of_numbers text plain
of_form Chosen text = of_chosen text

-- whether they are worked
abbrev pub form_worked : Form → List ℕ → Bool
form_worked Plain = numbers_worked plain
form_worked Chosen = chosen_worked
