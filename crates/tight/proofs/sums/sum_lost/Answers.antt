-- `sum_lost` goes through the 16 places.
use native.Mathlib.Omega.{arith}
use borrow.Author.Rules.{rules}
use Rattle.tight.proofs.Summing.{lost_from_none, lost_onward, lost_in_all, lost_fits}
use Rattle.tight.proofs.sums.sum_lost.Goals as goal

pub loop-at-init : goal.loop-at-init
loop-at-init c =
    let a = c.args in
    lost_from_none a.plan a.mask a.risk a.x a.live a.units a.work.now

pub sum_one-requires : goal.sum_one-requires
sum_one-requires c =
    let l = c.loop-at in
    let a = c.args in (
      c.requires.0,
      search rules,
      search rules,
      lost_fits a.plan a.mask a.risk a.x a.live a.units l.at a.work.now l.work (omega arith) c.requires.1 l.invariant c.requires.2,
    )

pub loop-at-preserved : goal.loop-at-preserved
loop-at-preserved c =
    let a = c.args in
    lost_onward a.plan a.mask a.risk a.x a.live a.units c.loop-at.at a.work.now c.loop-at.work _ c.requires.1 c.loop-at.invariant c.sum_one.ensures

pub returns : goal.returns
returns c =
    let a = c.args in
    let l = c.loop-at in
    lost_in_all a.plan a.mask a.risk a.x a.live a.units l.at a.work.now l.work (omega arith) c.requires.1 l.invariant
