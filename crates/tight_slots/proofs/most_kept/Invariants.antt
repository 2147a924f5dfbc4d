-- `most_kept` meets its contract. The invariant of its loop: it has the most of the nodes before node v.
use Rattle.std.proofs.Common.{◌≡◌}
use Rattle.rules.specs.Input.{edges_of}
use Rattle.tight_rules.specs.Rooms.{most_kept}
use Rattle.tight_slots.proofs.most_kept.Given as goal

abbrev pub invariant-loop-v : goal.invariant-loop-v
invariant-loop-v l = l.most ≡ most_kept (edges_of l.edges) l.v
