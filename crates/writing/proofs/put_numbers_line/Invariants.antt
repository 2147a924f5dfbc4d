-- `put_numbers_line` meets its contract. The invariant of its loop: what is left of the line, put behind the numbers so far, makes the whole.
use lib.ListN.{drop}
use Rattle.writing.specs.Writing.{numbers_line}
use Rattle.writing.proofs.Putting.{Leaves}
use Rattle.writing.proofs.put_numbers_line.Given as goal

abbrev pub invariant-loop-i : goal.invariant-loop-i
invariant-loop-i l = Leaves (numbers_line (drop l.i l.numbers)) l.end l.room (numbers_line l.numbers) l.at l.initial.room
