-- `next_edge` goes from edge to edge.
use mathlib.Core.Path.{sym, ◌∙◌}
use borrow.Author.Rules.{rules}
use Rattle.tables.proofs.Edges.{next_here, next_other, next_none, next_past}
use Rattle.tables.proofs.next_edge.Goals as goal

pub returns-then-edges-start : goal.returns-then-edges-start
returns-then-edges-start c = let a = c.args in next_past a.edges.now a.to a.start c.if-edges-start.true

pub returns-then-edges-e : goal.returns-then-edges-e
returns-then-edges-e c =
    let a = c.args in
    let l = c.loop-e in
    next_here a.edges.now a.to l.e c.loop-e-test.true c.if-edges-e.true ∙ l.invariant.1

pub loop-e-preserved : goal.loop-e-preserved
loop-e-preserved c =
    let a = c.args in
    let l = c.loop-e in
    (search rules, next_other a.edges.now a.to l.e c.loop-e-test.true c.if-edges-e.false ∙ l.invariant.1)

pub returns : goal.returns
returns c =
    let a = c.args in
    let l = c.loop-e in
    sym (next_none a.edges.now a.to l.e l.invariant.0 c.loop-e-test.false) ∙ l.invariant.1
