-- `meet_rows` adds cell by cell. The invariant of its loop: the words before place j are sums of what stood there, and the others are as they were.
use Prim.Native.Nat.{◌+◌}
use Rattle.tight_joins.specs.Meeting.{met_at}
use Rattle.tight_rows.proofs.Writing.{Written}
use Rattle.tight_joins.proofs.meets.meet_rows.Given as goal

abbrev pub invariant-loop-j : goal.invariant-loop-j
invariant-loop-j l = Written l.to (λ w i. w (l.to + i) + met_at l.left l.ours l.right l.theirs l.units w i) l.j l.initial.work l.work
