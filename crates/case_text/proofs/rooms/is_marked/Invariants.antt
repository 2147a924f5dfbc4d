-- `is_marked` meets its contract. The invariant of its loop: the words that are left decide. Assumes nothing.
use mathlib.Core.Path.{◌≡◌}
use lib.ListN.{drop}
use Rattle.case_text.specs.Rooms.{mark_of, all_are, is_marked}
use Rattle.case_text.proofs.rooms.is_marked.Given as goal

abbrev pub invariant-loop-i : goal.invariant-loop-i
invariant-loop-i l = all_are mark_of l.i (drop l.i l.room) ≡ is_marked l.room
