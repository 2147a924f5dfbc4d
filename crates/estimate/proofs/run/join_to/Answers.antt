-- `join_to` pairs the two tables up in the scratch by the entry, and settles what it finds.
use mathlib.Core.Path.{refl, ap, ◌∙◌}
use mathlib.Core.Bool.{◌&&◌}
use native.Mathlib.Omega.{arith}
use lib.ListN.{drop, length-take}
use Rattle.words.specs.Tables.{table_of}
use Rattle.rules.specs.Fold.{states}
use Rattle.tables.proofs.Settling.{settled_from}
use Rattle.estimate.proofs.HandedIn.{by_entry_fits}
use Rattle.estimate.proofs.run.join_to.Goals as goal

pub settle-done-requires : goal.settle-done-requires
settle-done-requires c = let a = c.args in
    let p = c.requires in
    let T = table_of a.work.now in
    let g = c.pair_entry-paired in
    let fits = by_entry_fits a.counts.now a.rows.now a.number p.7 _ _ _ _ _ (omega (arith, length-take a.begun.states (drop a.at T), p.2)) (omega (arith, length-take a.m (drop a.other T), p.4)) g.ensures.0 in
    (omega (arith, p.0, g.auto.work), p.1, fits.0, p.5, p.6, fits.1)

pub returns : goal.returns
returns c = let a = c.args in
    let p = c.requires in
    let g = c.pair_entry-paired.ensures in (
      settled_from states a.limit _ _ _ _ a.at _ _ _ _ _ g.0.table refl (omega (arith, p.1)) g.0.slots c.settle-done.ensures,
      c.both.ensures ∙ ap (a.begun.fits &&◌) g.1,
    )
