-- `living` meets its contract. The invariant of its loop: what is live before the accesses from place i of the run on.
use Rattle.std.proofs.Common.{◌≡◌, drop}
use Rattle.tight_rules.specs.Run.{living}
use Rattle.live.proofs.living.Given as goal

abbrev pub invariant-loop-i : goal.invariant-loop-i
invariant-loop-i l = l.so_far ≡ living l.tracked l.live (drop l.i l.run)
