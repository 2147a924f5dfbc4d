-- `insert_head` makes room from the last place down. The invariant of its loop: those from `j` on have gone up by one, and the head belongs to place `j` or before it.
use Rattle.heads.proofs.Rows.{Making}
use Rattle.heads.proofs.insert_head.Given as goal

abbrev pub invariant-loop-j : goal.invariant-loop-j
invariant-loop-j l = Making l.count l.head l.initial.heads l.heads l.j
