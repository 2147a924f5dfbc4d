-- `step_rows` goes row by row. The invariant of its loop: the rows before row k are cells.
use Rattle.tight_joins.specs.Piling.{stepped, EachRow}
use Rattle.tight_joins.proofs.piles.step_rows.Given as goal

abbrev pub invariant-loop-k : goal.invariant-loop-k
invariant-loop-k l = EachRow l.b (stepped l.b.width) l.k l.initial.work l.work
