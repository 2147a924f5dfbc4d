-- `has_edge_out` meets its contract: in a turn, by what is found of the highest node that is left, and by those below it.
use mathlib.Core.Path.{sym, ◌∙◌}
use mathlib.Core.List.{map}
use Prim.Native.Nat.{suc, ◌-◌}
use native.Mathlib.Omega.{arith}
use borrow.Author.Tests.{ne_eqb}
use Rattle.rules.specs.Contents.{among}
use Rattle.rules.specs.Input.{edges_of}
use Rattle.graph_check.proofs.Checks.{but_last, below_on, below_fails, below_none}
use Rattle.graph_check.proofs.has_edge_out.Invariants.{out}
use Rattle.graph_check.proofs.has_edge_out.Goals as goal

pub loop-j-init : goal.loop-j-init
loop-j-init c = let a = c.args in but_last (among (map (λ e. e.from) (edges_of a.edges.now))) a.n

pub loop-j-preserved : goal.loop-j-preserved
loop-j-preserved c =
    let a = c.args in
    let j = c.loop-j.j - 1 in
    below_on (out a.n a.edges.now) j _ c.loop-j.invariant (omega arith)
    (rw (ne_eqb (suc (j - 1)) a.n (λ z. omega arith)) (sym c.ends.ensures ∙ c.if-not-ends.false))

pub returns-then-not-ends : goal.returns-then-not-ends
returns-then-not-ends c =
    let a = c.args in
    let j = c.loop-j.j - 1 in
    below_fails (out a.n a.edges.now) j _ c.loop-j.invariant (omega arith)
    (rw (ne_eqb (suc (j - 1)) a.n (λ z. omega arith)) (sym c.ends.ensures ∙ c.if-not-ends.true))

pub returns : goal.returns
returns c = below_none _ (c.loop-j.j - 1) _ c.loop-j.invariant (omega arith)
