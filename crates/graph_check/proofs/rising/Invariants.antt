-- The edges rise where those from the one before edge e on do.
use Rattle.std.proofs.Common.{◌≡◌, ◌-◌, ◌*◌, drop}
use Rattle.rules.specs.Ordered.{rises}
use Rattle.rules.specs.Input.{edges_of}
use Rattle.rules.specs.Refusals.{edge_order}
use Rattle.graph_check.proofs.rising.Given as goal

abbrev pub invariant-loop-e : goal.invariant-loop-e
invariant-loop-e l = rises edge_order (edges_of (drop (l.e * 2 - 2) l.edges)) ≡ rises edge_order (edges_of l.edges)
