-- `move_on` changes places with each head behind it that is less. The invariant of its loop: what is to be put at place `j` or further on is what was to be put at place `at` or further on;
-- the last is not less, so that the loop ends before it.
use Prim.Native.Nat.{◌-◌}
use lib.ListN.{length}
use Rattle.heads.proofs.Rows.{Going}
use Rattle.heads.proofs.move_on.Given as goal

abbrev pub invariant-loop-other : goal.invariant-loop-other
invariant-loop-other l = Going l.at l.head l.initial.heads l.heads l.j l.other

abbrev pub decreases-loop-other : goal.decreases-loop-other
decreases-loop-other l = length l.initial.heads - l.j
