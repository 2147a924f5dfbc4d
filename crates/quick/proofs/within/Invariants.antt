-- `within` meets its contract. The invariant of its loop: what is left of the allowance with the numbers from place `at` on is the allowance.
use Rattle.std.proofs.Common.{◌≤◌}
use Rattle.quick.proofs.Downwards.{Left}
use Rattle.quick.proofs.within.Given as goal

abbrev pub invariant-loop-at : goal.invariant-loop-at
invariant-loop-at l = (l.first ≤ l.at) × Left l.spread l.allowance l.at l.left
