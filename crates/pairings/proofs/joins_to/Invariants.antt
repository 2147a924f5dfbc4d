-- `joins_to` adds the joins of one node after the other.
use Rattle.std.proofs.Common.{◌≡◌}
use Rattle.rules.specs.Input.{edges_of, joins_to}
use Rattle.pairings.proofs.joins_to.Given as goal

abbrev pub invariant-loop-j : goal.invariant-loop-j
invariant-loop-j l = l.joins ≡ joins_to (edges_of l.edges) l.j
