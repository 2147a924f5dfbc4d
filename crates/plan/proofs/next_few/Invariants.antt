-- `next_few` goes down by four masks, as `next_singly` does by one, with the same invariant.
use mathlib.Core.Path.{◌≡◌}
use Prim.Native.Nat.{◌≤◌}
use Rattle.plan.specs.Next.{next_few}
use Rattle.plan.proofs.next_few.Given as goal

abbrev pub invariant-loop-m : goal.invariant-loop-m
invariant-loop-m l = (l.m ≤ l.from) × (next_few l.bound l.words l.m ≡ next_few l.bound l.words l.from)

abbrev pub decreases-loop-m : goal.decreases-loop-m
decreases-loop-m l = l.m
