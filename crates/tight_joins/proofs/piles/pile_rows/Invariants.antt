-- `pile_rows` goes row by row. The invariant of its loop: the rows before row k are heights.
use Rattle.tight_joins.specs.Piling.{piled, EachRow}
use Rattle.tight_joins.proofs.piles.pile_rows.Given as goal

abbrev pub invariant-loop-k : goal.invariant-loop-k
invariant-loop-k l = EachRow l.b (piled l.by l.b.width) l.k l.initial.work l.work
