-- `unlike_to` goes cell by cell. The invariant of its loop: the sum is that of the cells before cell j.
use mathlib.Core.Path.{◌≡◌}
use Rattle.tight_rows.specs.Room.{words_of}
use Rattle.tight_ends.specs.Stage.{groups_of}
use Rattle.tight_ends.specs.Settling.{unlike_to}
use Rattle.tight_ends.proofs.settle.unlike_to.Given as goal

abbrev pub invariant-loop-j : goal.invariant-loop-j
invariant-loop-j l = l.sum ≡ unlike_to (groups_of l.cells l.stage (words_of l.work)) l.bottom l.j
