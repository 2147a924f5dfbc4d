-- `take_out` moves the states behind the place down by one. The invariant of its loop: up to `j` that is done.
use Rattle.words.specs.Tables.{table_of}
use Rattle.rules.specs.Table.{listing}
use Rattle.tables.proofs.Folding.{Closing}
use Rattle.estimate.proofs.fold.take_out.Given as goal

abbrev pub invariant-loop-j : goal.invariant-loop-j
invariant-loop-j l = Closing listing l.at l.j (table_of l.initial.words) (table_of l.words)
