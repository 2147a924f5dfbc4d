-- `advance` aims at the block, gathers what follows in the scratch, and settles it.
use Rattle.std.specs.Prelude.{None}
use native.Mathlib.Omega.{arith}
use lib.ListN.{take, drop}
use Rattle.words.specs.BestTables.{table_of}
use Rattle.best.proofs.Settling.{workable, placed, aimed_so, gathered_fits, advanced}
use Rattle.tables.proofs.Masks.{aimed_so as aim_so}
use Rattle.best.proofs.run.advance.Goals as goal

pub gather-gathered-requires : goal.gather-gathered-requires
gather-gathered-requires c =
    let a = c.args in
    let p = c.requires in
    let r = p.ranges in
    let target = aim_so a.sets a.tracked.now r.few_tracked r.known_sets None a.block _ c.aim-x.ensures in
    let aims = aimed_so _ _ r.known_sets a.block _ target in (
      placed a.ways a.sets a.tracked.now r.few_ways _ aims r.few_tracked,
      r.some_ways,
      r.few_ways,
      p.count,
      omega (arith, p.slot, p.count),
      p.room,
      workable a.ways a.sets a.tracked.now r.few_ways _ aims a.limit 4095 _ (omega arith) p.table,
    )

pub settle-requires : goal.settle-requires
settle-requires c =
    let a = c.args in
    let p = c.requires in
    let r = p.ranges in
    let g = c.gather-gathered in
    let target = aim_so a.sets a.tracked.now r.few_tracked r.known_sets None a.block _ c.aim-x.ensures in
    let fits = gathered_fits a.sets a.ways a.tracked.now a.limit 4095 _ _ _ _ _ r (aimed_so _ _ r.known_sets a.block _ target) p.table g.ensures in
    (omega (arith, p.room, g.auto.work), p.slot, fits.0, r.some_states, r.few_states, fits.1)

pub returns : goal.returns
returns c =
    let a = c.args in
    let r = c.requires.ranges in
    let g = c.gather-gathered in
    let target = aim_so a.sets a.tracked.now r.few_tracked r.known_sets None a.block _ c.aim-x.ensures in
    advanced a.ways a.limit c.aim-x.result _ (take a.n (drop a.at (table_of a.work.now))) a.at _ _ _ _ _ target (omega (arith, c.requires.slot)) g.ensures c.settle.ensures
