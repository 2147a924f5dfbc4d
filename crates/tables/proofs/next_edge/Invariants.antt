-- `next_edge` goes from edge to edge. The invariant of its loop: the next edge from there on is the one that is sought.
use mathlib.Core.Path.{◌≡◌}
use Prim.Native.Nat.{◌-◌, ◌≤◌}
use lib.ListN.{length}
use Rattle.tables.specs.Edges.{next_edge}
use Rattle.tables.proofs.next_edge.Given as goal

abbrev pub invariant-loop-e : goal.invariant-loop-e
invariant-loop-e l = (l.e ≤ length l.edges) × (next_edge l.edges l.to l.e ≡ next_edge l.edges l.to l.start)

abbrev pub decreases-loop-e : goal.decreases-loop-e
decreases-loop-e l = length l.edges - l.e
