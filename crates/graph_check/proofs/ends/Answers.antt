-- `ends` meets its contract: in a turn, by the number on side `side` of edge e and by the edges after it.
use borrow.Author.Tests.{eq-eqb, ne_eqb}
use Rattle.graph_check.proofs.Checks.{side_next, side_end}
use Rattle.graph_check.proofs.ends.Goals as goal

pub returns-then-edges-e : goal.returns-then-edges-e
returns-then-edges-e c =
    let a = c.args in
    rw (eq-eqb _ _ c.if-edges-e.true) at (side_next a.side a.j a.edges.now c.loop-e.e _ c.loop-e.invariant c.requires c.loop-e-test.true)

pub loop-e-preserved : goal.loop-e-preserved
loop-e-preserved c =
    let a = c.args in
    rw (ne_eqb _ _ c.if-edges-e.false) at (side_next a.side a.j a.edges.now c.loop-e.e _ c.loop-e.invariant c.requires c.loop-e-test.true)

pub returns : goal.returns
returns c =
    let a = c.args in
    side_end a.side a.j a.edges.now c.loop-e.e _ c.loop-e.invariant c.loop-e-test.false
