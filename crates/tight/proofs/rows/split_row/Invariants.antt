-- `split_row` splits word by word. The invariant of its loop: the words before place j are split, and the others are as they were.
use Rattle.tight_rows.specs.Room.{Leaves}
use Rattle.tight_rows.specs.Rows.{split_to}
use Rattle.tight.proofs.rows.split_row.Given as goal

abbrev pub invariant-loop-j : goal.invariant-loop-j
invariant-loop-j l = Leaves (split_to l.ways l.row l.select l.rest l.j) l.initial.work l.work
