-- `move_rows` goes through the rows. The invariant of its loop: the rows passed have come to where they go.
use Rattle.tight.proofs.RowsMoved.{MovedTo}
use Rattle.tight.proofs.arrivals.move_rows.Given as goal

abbrev pub invariant-loop-k : goal.invariant-loop-k
invariant-loop-k l = MovedTo l.ways l.x l.live l.t l.s l.initial.work l.k l.work
