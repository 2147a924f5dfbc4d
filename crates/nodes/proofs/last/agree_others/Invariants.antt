-- `agree_others` asks one predecessor after the other. The invariant of its loop: those to come make of what is left what all of them make of the
-- last block at the start.
use mathlib.Core.Path.{◌≡◌}
use Prim.Native.Nat.{◌-◌, ◌≤◌}
use lib.ListN.{length}
use Rattle.rules.specs.Graph.{agree_all}
use Rattle.tables.specs.Edges.{came_from, AtEdge}
use Rattle.nodes.proofs.last.agree_others.Given as goal

abbrev pub invariant-loop-e : goal.invariant-loop-e
invariant-loop-e l =
    (l.e ≤ length l.edges) × AtEdge l.edges l.to l.e × (agree_all l.lasts (came_from l.edges l.to l.e) l.so_far ≡ agree_all l.lasts (came_from l.edges l.to l.after) l.initial.so_far)

abbrev pub decreases-loop-e : goal.decreases-loop-e
decreases-loop-e l = length l.edges - l.e
