-- `largest` meets its contract. The invariant of its loop: the larger of the last cell found and the largest of those that are left is the largest of all.
use mathlib.Core.Path.{◌≡◌}
use Prim.Native.Nat.{◌≤◌, max}
use lib.ListN.{drop}
use Rattle.rules.specs.Questions.{largest}
use Rattle.row_questions.specs.Row.{states_from, states_of}
use Rattle.row_questions.proofs.cells.largest.Given as goal

abbrev pub invariant-loop-i : goal.invariant-loop-i
invariant-loop-i l = (l.last ≤ l.i) × (max l.last (largest (states_from l.i (drop l.i l.row))) ≡ largest (states_of l.row))
