-- `is_whole` meets its contract. The invariant of its loop: WHOLE and the units of the cells that are left are what is left of WHOLE and the units of all.
use mathlib.Core.Path.{◌≡◌}
use Prim.Native.Nat.{◌+◌, ◌≤◌}
use lib.ListN.{drop}
use Rattle.rules.specs.Units.{whole}
use Rattle.row_questions.proofs.Standing.{sum}
use Rattle.row_questions.proofs.cells.is_whole.Given as goal

abbrev pub invariant-loop-units : goal.invariant-loop-units
invariant-loop-units l = (l.left ≤ whole) × (whole + sum (drop l.units-index l.row) ≡ l.left + sum l.row)
