-- `put_lines` meets its contract. The invariant of its loop: what is left of the lines, put behind those so far, makes the whole.
use lib.ListN.{drop}
use Rattle.rules.specs.Units.{whole}
use Rattle.writing.proofs.Putting.{Leaves}
use Rattle.lines.specs.Counts.{count_lines}
use Rattle.lines.proofs.counts.put_lines.Given as goal

abbrev pub invariant-loop-m : goal.invariant-loop-m
invariant-loop-m l = Leaves (count_lines l.first l.step l.m l.left (drop l.m l.counts)) l.end l.room (count_lines l.first l.step 0 whole l.counts) l.at l.initial.room
