-- `sum_rows` goes through the rows. The invariant of its loop: the rows passed are added.
use Rattle.tight.proofs.RowsSummed.{SummedTo}
use Rattle.tight.proofs.totals.sum_rows.Given as goal

abbrev pub invariant-loop-k : goal.invariant-loop-k
invariant-loop-k l = SummedTo l.ways l.x l.live l.s l.plan l.initial.work l.k l.work
