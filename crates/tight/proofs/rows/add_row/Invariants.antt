-- `add_row` adds word by word. The invariant of its loop: the words before place j are sums of what stood there, and the others are as they were.
use Rattle.tight_rows.specs.Rows.{with_row}
use Rattle.tight_rows.proofs.Writing.{Written}
use Rattle.tight.proofs.rows.add_row.Given as goal

abbrev pub invariant-loop-j : goal.invariant-loop-j
invariant-loop-j l = Written l.to (with_row l.from l.select l.to l.times) l.j l.initial.work l.work
