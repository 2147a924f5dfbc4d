-- `put_all_filled` goes cell by cell. The invariant of its loop: the numbers of the cells before cell i are written.
use Rattle.tight_ends.specs.Ending.{FilledAll}
use Rattle.tight_ends.proofs.settle.put_all_filled.Given as goal

abbrev pub invariant-loop-i : goal.invariant-loop-i
invariant-loop-i l = FilledAll l.cells l.stage l.bottom l.fronts l.backs l.i l.initial.work l.work
