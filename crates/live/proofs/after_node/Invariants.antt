-- `after_node` meets its contract. The invariant of its loop: what is live by the edges from edge e of the list on.
use Rattle.std.proofs.Common.{◌≡◌, ◌*◌, drop}
use Rattle.rules.specs.Input.{edges_of}
use Rattle.tight_rules.specs.Live.{after_node}
use Rattle.live.proofs.after_node.Given as goal

abbrev pub invariant-loop-e : goal.invariant-loop-e
invariant-loop-e l = l.live ≡ after_node l.starts l.v (edges_of (drop (2 * l.e) l.edges))
