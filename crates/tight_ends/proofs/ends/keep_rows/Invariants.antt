-- `keep_rows` goes row by row. The invariant of its loop: the rows before row k are kept.
use Rattle.tight_ends.specs.Keeping.{KeptTo}
use Rattle.tight_ends.proofs.ends.keep_rows.Given as goal

abbrev pub invariant-loop-k : goal.invariant-loop-k
invariant-loop-k l = KeptTo l.contents l.cells l.slot l.bottom l.width l.k l.to l.initial.work l.work
