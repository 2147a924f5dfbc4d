-- What is printed for numbers that begin with a choice, case by case: there is none, or the numbers behind it are those of the curve, on the cache that is chosen.
use mathlib.Core.Path.{◌≡◌, ap₂}
use mathlib.Core.Bool.{true, false}
use mathlib.Core.List.{List}
use Prim.Native.Nat.{ℕ, ◌-◌}
use native.Mathlib.Omega.{arith}
use lib.ListN.{length, take, drop, length-drop}
use lib.Seq.{take_all}
use Rattle.rules.specs.Input.{Input}
use Rattle.curve_numbers.specs.declared.Choice.{Choice}
use Rattle.curve_numbers.specs.Choices.{chooses, choice_in}
use Rattle.writing.specs.Writing.{refused_line}
use Rattle.printed.specs.Printed.{of_numbers, numbers_worked}
use Rattle.printed.specs.Choices.{of_chosen, chosen_worked}

-- ---- no choice

module _ (ns : List ℕ) (not : chooses ns ≡ false) where
  pub printed_unchosen : (text : Input → List ℕ) → refused_line 9 ≡ of_chosen text ns
  unfolding of_chosen
  printed_unchosen text = rw not

  pub unchosen_unworked : chosen_worked ns ≡ false
  unfolding chosen_worked
  unchosen_unworked = rw not

-- ---- a choice

module _ (ns : List ℕ) (there : chooses ns ≡ true) (ch : Choice) (is : ch ≡ choice_in ns) where
  -- the numbers behind it, as a part of the list
  behind : take (length ns - 3) (drop 3 ns) ≡ drop 3 ns
  behind = take_all (length ns - 3) (drop 3 ns) (omega (arith, length-drop 3 ns))

  pub printed_chosen : (text : Input → List ℕ) → of_numbers text ch (take (length ns - 3) (drop 3 ns)) ≡ of_chosen text ns
  unfolding of_chosen
  printed_chosen text = rw there (ap₂ (of_numbers text) is behind)

  pub chosen_worked_lem : numbers_worked ch (take (length ns - 3) (drop 3 ns)) ≡ chosen_worked ns
  unfolding chosen_worked
  chosen_worked_lem = rw there (ap₂ numbers_worked is behind)
