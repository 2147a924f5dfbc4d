-- `join_to` pairs the two tables up in the scratch, and settles what it finds.
use mathlib.Core.Path.{refl}
use native.Mathlib.Omega.{arith}
use lib.ListN.{drop, length-take}
use Rattle.words.specs.BestTables.{table_of}
use Rattle.rules.specs.Best.{kind}
use Rattle.tables.proofs.Settling.{settled_from}
use Rattle.best.proofs.Settling.{joined_fits}
use Rattle.best.proofs.run.join_to.Goals as goal

pub settle-requires : goal.settle-requires
settle-requires c = let a = c.args in
    let p = c.requires in
    let T = table_of a.work.now in
    let fits = joined_fits _ _ _ _ _ (omega (arith, length-take a.n (drop a.at T), p.2)) (omega (arith, length-take a.m (drop a.other T), p.4)) c.pair_up-k.ensures in
    (omega (arith, p.0, c.pair_up-k.auto.work), p.1, fits.0, p.5, p.6, fits.1)

pub returns : goal.returns
returns c = let a = c.args in
    let p = c.requires in
    let g = c.pair_up-k.ensures in
    settled_from kind a.limit _ _ _ _ a.at _ _ _ _ _ g.table refl (omega (arith, p.1)) g.slots c.settle.ensures
