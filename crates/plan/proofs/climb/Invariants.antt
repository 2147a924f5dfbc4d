-- `climb` goes through the levels. The invariant of its loop: those that are left make the whole, and up to `low` nothing was light so far.
use mathlib.Core.Path.{◌≡◌}
use Prim.Native.Nat.{◌-◌, ◌^◌, ◌≤◌}
use lib.Dec.{ltb}
use Rattle.plan.specs.Plan.{plan_of, levels, all_levels, NoneBelow}
use Rattle.plan.proofs.climb.Given as goal

abbrev pub invariant-loop-height : goal.invariant-loop-height
invariant-loop-height l =
    (2 ^ l.height ≤ l.low → NoneBelow l.low l.masks l.words)
    × (levels l.limit l.masks l.held (50 - l.height) (ltb l.limit l.t.present) l.height (plan_of l.words l.t) ≡ all_levels l.limit l.masks l.held (plan_of l.initial.words l.initial.t))
