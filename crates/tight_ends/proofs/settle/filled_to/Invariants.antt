-- `filled_to` goes cell by cell. The invariant of its loop: the numbers are those over the cells before cell j.
use mathlib.Core.Path.{◌≡◌}
use Rattle.tight_rows.specs.Room.{words_of}
use Rattle.tight_ends.specs.Stage.{groups_of}
use Rattle.tight_ends.specs.Settling.{filled_to}
use Rattle.tight_ends.proofs.settle.filled_to.Given as goal

abbrev pub invariant-loop-j : goal.invariant-loop-j
invariant-loop-j l = l.f ≡ filled_to (groups_of l.cells l.stage (words_of l.work)) l.j
