-- Node j is on side `side` of some edge where it is on that side of one of those from edge e on.
use Rattle.std.proofs.Common.{◌≡◌, ◌*◌, map, drop}
use Rattle.rules.specs.Contents.{among}
use Rattle.rules.specs.Input.{edges_of}
use Rattle.graph_check.specs.Edges.{side_of}
use Rattle.graph_check.proofs.ends.Given as goal

abbrev pub invariant-loop-e : goal.invariant-loop-e
invariant-loop-e l = among (map (side_of l.side) (edges_of (drop (l.e * 2) l.edges))) l.j ≡ among (map (side_of l.side) (edges_of l.edges)) l.j
