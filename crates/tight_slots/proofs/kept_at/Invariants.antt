-- `kept_at` meets its contract. The invariant of its loop: it has counted those below node u.
use Rattle.std.proofs.Common.{◌≡◌}
use Rattle.rules.specs.Input.{edges_of}
use Rattle.tight_rules.specs.Rooms.{kept_below}
use Rattle.tight_slots.proofs.kept_at.Given as goal

abbrev pub invariant-loop-u : goal.invariant-loop-u
invariant-loop-u l = l.kept ≡ kept_below (edges_of l.edges) l.v l.u
