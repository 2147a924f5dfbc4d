-- `split_rows` goes row by row. The invariant of its loop: the rows before row k are split, and what is left over of them is added up.
use Rattle.tight.specs.Splitting.{Shared}
use Rattle.tight.proofs.splits.split_rows.Given as goal

abbrev pub invariant-loop-k : goal.invariant-loop-k
invariant-loop-k l = Shared l.ways l.x l.s l.k l.initial.work l.work
