-- `open_join` meets its contract: two edges, and the node behind them.
use mathlib.Core.Path.{ap, ◌∙◌}
use mathlib.Core.List.{[]}
use native.Mathlib.Omega.{arith}
use Rattle.listing.specs.Writing.{edge_written, node_opened}
use Rattle.listing.proofs.emitting.open_join.Goals as goal

pub write_edge-again-requires : goal.write_edge-again-requires
unfolding edge_written
write_edge-again-requires c =
    let linked = c.write_edge-linked in
    let e = linked.ensures in
    record {
      from = omega (arith, ap (λ w. w.nodes) (e.rooms [] []));
      few = omega (arith, ap (λ w. w.nodes) (e.rooms [] []));
      enough = omega (arith, ap (λ w. w.links) (e.rooms [] []), linked.auto.edges);
    }

pub open_node-requires : goal.open_node-requires
unfolding edge_written
open_node-requires c =
    let e = c.write_edge-linked.ensures in
    let f = c.write_edge-again.ensures in
    omega (arith, ap (λ w. w.nodes) (e.rooms [] []), ap (λ w. w.nodes) (f.rooms [] []))

pub returns : goal.returns
returns c =
    let e = c.write_edge-linked.ensures in
    let f = c.write_edge-again.ensures in
    record { rooms = λ ns bs. c.open_node.ensures.rooms ns bs _ ∙ ap node_opened (f.rooms ns bs ∙ ap (edge_written _) (e.rooms ns bs)) }
