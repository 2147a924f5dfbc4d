-- `step_row` goes cell by cell. The invariant of its loop: the heights before place j are cells, and the others are as they were.
use Rattle.tight_joins.specs.Piling.{stepped}
use Rattle.tight_rows.proofs.Writing.{Written}
use Rattle.tight_joins.proofs.piles.step_row.Given as goal

abbrev pub invariant-loop-j : goal.invariant-loop-j
invariant-loop-j l = Written l.at (stepped l.width l.at) l.j l.initial.work l.work
