-- `most_before` meets its contract. The invariant of its loop: the larger of the most so far and the most by the edges that are left is the most
-- by all edges.
use Rattle.std.proofs.Common.{◌≡◌, max, length, drop}
use Rattle.rules.specs.Input.{edges_of, predecessors}
use Rattle.rules.specs.Longest.{most_of}
use Rattle.longest.proofs.most_before.Given as goal

abbrev pub invariant-loop-edge : goal.invariant-loop-edge
invariant-loop-edge l =
    max l.most (most_of l.ends (predecessors (drop (length l.yielded) (edges_of l.edges)) l.node)) ≡ most_of l.ends (predecessors (edges_of l.edges) l.node)
