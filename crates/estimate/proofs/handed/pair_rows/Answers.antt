-- `pair_rows` adds one row's pair after the other.
use mathlib.Core.Path.{◌∙◌}
use native.Mathlib.Omega.{arith}
use Rattle.estimate.proofs.HandedIn.{rowing_none, rowing_room, rowing_more, rowing_end}
use Rattle.estimate.proofs.handed.pair_rows.Goals as goal

pub loop-row-init : goal.loop-row-init
loop-row-init c = let a = c.args in
    let e = c.chunks_exact-row-items.ensures in
    rw c.into_iter-row-iterator.ensures.into_iter_gives (e.size, rw e.rest (rowing_none a.left a.m a.right a.k a.rows.now a.work.now c.requires.6))

pub add_pair-n-requires : goal.add_pair-n-requires
add_pair-n-requires c = let p = c.requires in
    let l = c.loop-row in
    let s = c.in-Some.ensures.steps.1 in
    rowing_room l.invariant.1 p.2 p.3 c.in-Some.row.now _ s.0 (s.1 ∙ l.invariant.0) p.4 p.5

pub loop-row-preserved : goal.loop-row-preserved
loop-row-preserved c = let p = c.requires in
    let l = c.loop-row in
    let s = c.in-Some.ensures.steps in
    let g = c.add_pair-n in
    (s.0 ∙ l.invariant.0, rowing_more l.invariant.1 p.2 p.3 c.in-Some.row.now _ s.1.0 (s.1.1 ∙ l.invariant.0) _ _ g.auto.work g.ensures)

pub returns : goal.returns
returns c = let p = c.requires in
    rowing_end c.loop-row.invariant.1 p.2 p.3 (omega (arith, c.in-None.ensures.steps.1.0, c.loop-row.invariant.0))
