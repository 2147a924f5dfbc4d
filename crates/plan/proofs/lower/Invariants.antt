-- `lower` looks at the places from the highest down. The invariant of its loop: the places from i on are none that the contents can lose.
use mathlib.Core.Path.{◌≡◌}
use Rattle.rules.specs.Contents.{places}
use Rattle.tight_rules.specs.Reduction.{lowered}
use Rattle.plan.proofs.lower.Given as goal

abbrev pub invariant-loop-i : goal.invariant-loop-i
invariant-loop-i l = lowered l.i l.held l.mask ≡ lowered places l.held l.mask
