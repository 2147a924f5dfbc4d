-- `agree_others` asks one predecessor after the other.
use mathlib.Core.Path.{refl, sym, ◌∙◌}
use native.Mathlib.Omega.{arith}
use lib.ListN.{get_or}
use Rattle.tables.proofs.Edges.{into_here, into_none, found}
use Rattle.nodes.proofs.Lasts.{agree_turn, agree_end}
use Rattle.nodes.proofs.last.agree_others.Goals as goal

pub loop-e-init : goal.loop-e-init
loop-e-init c = let n = found _ _ _ _ c.next_edge-e.ensures in (n.1, n.2, rw n.3 refl)

pub overflow_cast-edges : goal.overflow_cast-edges
overflow_cast-edges c = omega (arith, c.shared_slice_known-in-loop-e-1.given c.loop-e.e)

pub loop-e-smaller : goal.loop-e-smaller
loop-e-smaller c =
    let n = found _ _ _ _ c.next_edge-e-in-loop-e.ensures in
    let here = c.loop-e.invariant.1 c.loop-e-test.true in
    omega (arith, n.0 (omega (arith, here.0)), n.1)

pub loop-e-preserved : goal.loop-e-preserved
loop-e-preserved c =
    let a = c.args in
    let l = c.loop-e in
    let n = found _ _ _ _ c.next_edge-e-in-loop-e.ensures in
    let here = l.invariant.1 c.loop-e-test.true in (
      n.1,
      n.2,
      rw n.3 (agree_turn _ _ _ (get_or a.edges.now l.e 0) l.so_far _ _ (into_here a.edges.now a.to l.e here.0 here.1) c.last_at.ensures c.agree-so_far.ensures) ∙ l.invariant.2,
    )

pub returns : goal.returns
returns c =
    let a = c.args in
    let l = c.loop-e in
    sym (agree_end _ _ l.so_far (into_none a.edges.now a.to l.e (omega arith))) ∙ l.invariant.2
