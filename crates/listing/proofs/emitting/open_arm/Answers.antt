-- `open_arm` meets its contract: an edge, and the node behind it.
use mathlib.Core.Path.{ap, ◌∙◌}
use mathlib.Core.List.{[]}
use native.Mathlib.Omega.{arith}
use Rattle.listing.specs.Writing.{edge_written, node_opened}
use Rattle.listing.proofs.emitting.open_arm.Goals as goal

pub open_node-requires : goal.open_node-requires
unfolding edge_written
open_node-requires c =
    let e = c.write_edge-linked.ensures in
    omega (arith, ap (λ w. w.nodes) (e.rooms [] []), c.requires.few)

pub returns : goal.returns
returns c =
    let e = c.write_edge-linked.ensures in
    record { rooms = λ ns bs. c.open_node.ensures.rooms ns bs _ ∙ ap node_opened (e.rooms ns bs) }
