-- `advance` aims at the block, gathers what follows in the scratch, and settles it.
use native.Mathlib.Omega.{arith}
use Rattle.estimate.specs.Working.{work_at}
use Rattle.estimate.proofs.Settling.{workable, placed, aimed_so, gathered_fits, advanced}
use Rattle.tables.proofs.Masks.{aimed_so as aim_so}
use Rattle.estimate.proofs.run.advance.Goals as goal

pub gather-gathered-requires : goal.gather-gathered-requires
gather-gathered-requires c = let a = c.args in let p = c.requires in
    let r = p.ranges in
    let aims = aimed_so _ _ r.known_sets a.last a.block _ (aim_so a.cache.sets a.tracked.now r.few_tracked r.known_sets a.last a.block _ c.aim-x.ensures) in (
      placed a.cache.ways a.cache.sets a.tracked.now r.few_ways r.few_tracked _ aims,
      r.few_ways,
      p.count,
      omega (arith, p.slot, p.count),
      p.room,
      p.aside,
      workable a.cache.ways a.cache.sets a.tracked.now r.few_ways r.few_tracked _ aims a.limit 4095 _ (omega arith) p.table,
      p.table.rises,
    )

pub settle-requires : goal.settle-requires
settle-requires c = let a = c.args in let p = c.requires in
    let r = p.ranges in
    let g = c.gather-gathered in
    let aims = aimed_so _ _ r.known_sets a.last a.block _ (aim_so a.cache.sets a.tracked.now r.few_tracked r.known_sets a.last a.block _ c.aim-x.ensures) in
    let fits = gathered_fits a.cache a.tracked.now a.limit 4095 _ _ _ _ _ r aims p.table g.ensures.in_scratch in
    (omega (arith, p.room, g.auto.work), p.slot, fits.0, r.some_states, r.few_states, fits.1)

pub returns : goal.returns
returns c = let a = c.args in let r = c.requires.ranges in
    let g = c.gather-gathered in
    advanced a.cache.ways a.limit c.aim-x.result _ (work_at a.at a.tally.states a.tally.aside.0 a.work.now) a.at _ _ _ _ _ _ _
    (aim_so a.cache.sets a.tracked.now r.few_tracked r.known_sets a.last a.block _ c.aim-x.ensures) (omega (arith, c.requires.slot)) g.ensures.in_scratch g.ensures.aside_value c.settle.ensures
