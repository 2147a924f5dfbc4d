-- `has_edge_in` meets its contract: in a turn, by what is found of the highest node that is left, and by those below it.
use mathlib.Core.Path.{refl, sym, ◌∙◌}
use Prim.Native.Nat.{◌-◌}
use native.Mathlib.Omega.{arith}
use Rattle.graph_check.proofs.Checks.{below_on, below_fails, below_end}
use borrow.Author.Tests.{ne_eqb}
use Rattle.graph_check.proofs.has_edge_in.Invariants.{into}
use Rattle.graph_check.proofs.has_edge_in.Goals as goal

pub loop-j-init : goal.loop-j-init
loop-j-init c = refl

pub loop-j-preserved : goal.loop-j-preserved
loop-j-preserved c =
    let l = c.loop-j in
    below_on (into c.args.edges.now) l.j _ l.invariant (omega arith) (rw (ne_eqb (l.j - 1) 0 (λ z. omega arith)) (sym c.ends.ensures ∙ c.if-not-ends.false))

pub returns-then-not-ends : goal.returns-then-not-ends
returns-then-not-ends c =
    let l = c.loop-j in
    below_fails (into c.args.edges.now) l.j _ l.invariant (omega arith) (rw (ne_eqb (l.j - 1) 0 (λ z. omega arith)) (sym c.ends.ensures ∙ c.if-not-ends.true))

pub returns : goal.returns
returns c = below_end _ _ _ c.loop-j.invariant c.loop-j-test.false refl
