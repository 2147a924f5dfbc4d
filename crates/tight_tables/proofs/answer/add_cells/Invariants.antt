-- `add_cells` adds cell by cell. The invariant of its loop: the cells before the next one have their units more, and the others are as they were.
use Rattle.tight_rows.specs.Room.{words_of}
use Rattle.tight_rows.proofs.Writing.{Written}
use Rattle.tight_tables.proofs.Answering.{cells_more}
use Rattle.tight_tables.proofs.answer.add_cells.Given as goal

abbrev pub invariant-loop-j : goal.invariant-loop-j
invariant-loop-j l = Written l.to (cells_more l.to l.row (words_of l.work)) l.j l.initial.res l.res
