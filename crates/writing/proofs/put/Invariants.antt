-- `put` meets its contract. The invariant of its loop: what is left of the bytes, put behind those so far, makes the whole.
use lib.ListN.{drop}
use Rattle.writing.proofs.Putting.{Leaves}
use Rattle.writing.proofs.put.Given as goal

abbrev pub invariant-loop-b : goal.invariant-loop-b
invariant-loop-b l = Leaves (drop l.b-index l.bytes) l.end l.room l.bytes l.at l.initial.room
