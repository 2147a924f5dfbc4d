-- `add_contents` adds row after row. The invariant of its loop: the units of the first k contents stand in the row.
use Rattle.tight_rows.specs.Room.{words_of}
use Rattle.tight_rows.specs.Grid.{grid_of}
use Rattle.tight_tables.proofs.Answering.{ColumnsIn}
use Rattle.tight_tables.proofs.answer.add_contents.Given as goal

abbrev pub invariant-loop-k : goal.invariant-loop-k
invariant-loop-k l = ColumnsIn (grid_of l.contents l.cells l.slot (words_of l.work)) l.k l.initial.res l.res
