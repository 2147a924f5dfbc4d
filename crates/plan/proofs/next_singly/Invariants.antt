-- `next_singly` goes down. The invariant of its loop: the masks passed have no or too many units.
use mathlib.Core.Path.{◌≡◌}
use Rattle.plan.specs.Next.{next_few}
use Rattle.plan.proofs.next_singly.Given as goal

abbrev pub invariant-loop-m : goal.invariant-loop-m
invariant-loop-m l = next_few l.bound l.words l.m ≡ next_few l.bound l.words l.from
