-- `follow` goes from mask to mask. The invariant of its loop: what is left of the steps leads from here to the same end.
use mathlib.Core.Path.{◌≡◌}
use Prim.Native.Nat.{◌+◌, ◌-◌, ◌≤◌, ◌<◌}
use lib.ListN.{length}
use Rattle.rules.specs.Contents.{places}
use Rattle.plan.specs.Plan.{onward, end_of}
use Rattle.plan.proofs.follow.Given as goal

abbrev pub invariant-loop-step : goal.invariant-loop-step
invariant-loop-step l = (l.at ≤ l.mask) × (l.masks + l.at < length l.words) × (onward (places - l._step) l.masks l.words l.at ≡ end_of l.masks l.words l.mask)
