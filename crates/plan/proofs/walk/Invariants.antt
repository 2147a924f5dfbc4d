-- `walk` goes from the highest mask down. The invariant of its loop: what is left of the level makes the whole of it.
use mathlib.Core.Path.{◌≡◌}
use Prim.Native.Nat.{◌-◌, ◌≤◌}
use lib.ListN.{length}
use Rattle.plan.specs.Plan.{plan_of, level}
use Rattle.plan.proofs.walk.Given as goal

abbrev pub invariant-loop-m : goal.invariant-loop-m
invariant-loop-m l =
    (l.m ≤ l.masks) × (length l.words ≡ length l.initial.words) × (level l.limit l.bound l.masks l.held (l.m - 1) (plan_of l.words l.t) ≡ level l.limit l.bound l.masks l.held (l.masks - 1) (plan_of l.initial.words l.initial.t))

abbrev pub decreases-loop-m : goal.decreases-loop-m
decreases-loop-m l = l.m
