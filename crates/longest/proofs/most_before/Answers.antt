-- `most_before` meets its contract.
use Rattle.std.proofs.Common.{max, length, ap, ◌∙◌}
use native.Mathlib.Nat.{zero-max}
use Rattle.std.proofs.lemmas.Iterator.Consumers.{YieldsList-turn, YieldsList-end}
use Rattle.std.proofs.lemmas.List.{length_push}
use Rattle.rules.specs.Input.{edges_of}
use Rattle.graph_check.proofs.Checks.{edges_in_chunks, edge_of}
use Rattle.longest.proofs.Ends.{most_here, most_other, most_end}
use Rattle.longest.proofs.most_before.Goals as goal

pub loop-edge-init : goal.loop-edge-init
loop-edge-init c = zero-max _

-- the next edge leads to the node, or elsewhere
pub loop-edge-preserved-then-edge-node : goal.loop-edge-preserved-then-edge-node
loop-edge-preserved-then-edge-node c =
    let l = c.loop-edge in
    let a = c.args in
    let t = YieldsList-turn (edges_in_chunks _ a.edges.now (cc) (cc)) l.yielded _ l.yielded_by _ _ c.in-Some.edge c.in-Some.is c.next.ensures.steps in
    rw (length_push l.yielded c.in-Some.edge)
    (most_here a.ends.now (edges_of a.edges.now) a.node (length l.yielded) l.most _ l.invariant (edge_of c.in-Some.edge.now) t c.if-edge-node.true _ (c.larger-most.ensures ∙ ap (max l.most) c.end_of.ensures))

pub loop-edge-preserved : goal.loop-edge-preserved
loop-edge-preserved c =
    let l = c.loop-edge in
    let a = c.args in
    let t = YieldsList-turn (edges_in_chunks _ a.edges.now (cc) (cc)) l.yielded _ l.yielded_by _ _ c.in-Some.edge c.in-Some.is c.next.ensures.steps in
    rw (length_push l.yielded c.in-Some.edge)
    (most_other a.ends.now (edges_of a.edges.now) a.node (length l.yielded) l.most _ l.invariant (edge_of c.in-Some.edge.now) t c.if-edge-node.false)

pub returns : goal.returns
returns c =
    let l = c.loop-edge in
    let a = c.args in
    let t = YieldsList-end (edges_in_chunks _ a.edges.now (cc) (cc)) l.yielded _ l.yielded_by _ _ c.in-None.is c.next.ensures.steps in
    most_end a.ends.now (edges_of a.edges.now) a.node (length l.yielded) l.most _ l.invariant t.1
