-- `stage_rows` goes through the rows. The invariant of its loop: the rows passed are added.
use Rattle.tight.specs.Grouping.{CountedTo}
use Rattle.tight.proofs.stages.stage_rows.Given as goal

abbrev pub invariant-loop-k : goal.invariant-loop-k
invariant-loop-k l = CountedTo l.cells l.stage l.x l.s l.k l.initial.work l.work
