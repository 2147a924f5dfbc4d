-- `least` goes through the masks. The invariant of its loop: it has the fewest units of those passed.
use mathlib.Core.Path.{◌≡◌}
use Rattle.plan.specs.Plan.{lightest}
use Rattle.plan.proofs.least.Given as goal

abbrev pub invariant-loop-units : goal.invariant-loop-units
invariant-loop-units l = l.low ≡ lightest l.units-index l.words
