-- `count` goes through the masks. The invariant of its loop: so many of those passed have units.
use mathlib.Core.Path.{◌≡◌}
use Rattle.plan.specs.Plan.{present_in}
use Rattle.plan.proofs.count.Given as goal

abbrev pub invariant-loop-units : goal.invariant-loop-units
invariant-loop-units l = l.present ≡ present_in l.units-index l.words
