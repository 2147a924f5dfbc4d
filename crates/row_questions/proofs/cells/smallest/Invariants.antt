-- `smallest` meets its contract. The invariant of its loop: what is left of the allowance, and the units of the cells from `at` on, are the allowance.
use mathlib.Core.Path.{◌≡◌}
use Prim.Native.Nat.{◌+◌}
use lib.ListN.{drop}
use Rattle.row_questions.proofs.Standing.{sum}
use Rattle.row_questions.proofs.cells.smallest.Given as goal

abbrev pub invariant-loop-at : goal.invariant-loop-at
invariant-loop-at l = l.left + sum (drop l.at l.row) ≡ l.units
