-- `put_groups` goes cell by cell. The invariant of its loop: the numbers of the cells before cell j are written.
use Rattle.tight.specs.Grouping.{Grouped}
use Rattle.tight.proofs.stages.put_groups.Given as goal

abbrev pub invariant-loop-j : goal.invariant-loop-j
invariant-loop-j l = Grouped l.ways l.cells l.stage l.x l.fronts l.backs l.j l.initial.work l.work
