-- `sum_contents` adds all units at one mask, or goes on to a miss.
use mathlib.Core.Path.{refl, sym, ◌∙◌}
use Rattle.rules.specs.Contents.{with, shared}
use Rattle.tables.proofs.Masks.{has_listed}
use Rattle.tight_rows.proofs.Raising.{live_part}
use Rattle.tight_rows.proofs.Totals.{more_plain}
use Rattle.tight.proofs.Summing.{all_fits, hit_summed, safe_summed, row_summed}
use Rattle.tight.proofs.sums.sum_contents.Goals as goal

pub returns-then-has_block : goal.returns-then-has_block
unfolding shared
returns-then-has_block c =
    let a = c.args in
    let put = more_plain _ _ _ _ c.add_units.ensures (all_fits a.ways a.x a.plan a.live a.mask a.all a.part a.stay a.work.now c.requires _ (live_part a.mask a.live _ refl)) in
    rw put
    (hit_summed a.ways a.x a.plan a.live a.mask a.all a.part a.stay a.work.now c.requires
    (sym (has_listed a.mask a.x.place c.requires.placed _ _ c.has_block.ensures) ∙ c.if-has_block.true) _ refl)

pub returns-then-mask-x-eq0 : goal.returns-then-mask-x-eq0
unfolding shared
returns-then-mask-x-eq0 c =
    let a = c.args in
    let put = more_plain _ _ _ _ c.add_units-then-mask-x-eq0.ensures (all_fits a.ways a.x a.plan a.live a.mask a.all a.part a.stay a.work.now c.requires _ (live_part (with a.mask a.x.place) a.live _ c.comes_to-end.ensures)) in
    rw put
    (safe_summed a.ways a.x a.plan a.live a.mask a.all a.part a.stay a.work.now c.requires
    (sym (has_listed a.mask a.x.place c.requires.placed _ _ c.has_block.ensures) ∙ c.if-has_block.false) c.if-mask-x-eq0.true _ c.comes_to-end.ensures)

pub returns : goal.returns
unfolding shared
returns c =
    let a = c.args in
    row_summed a.ways a.x a.plan a.live a.mask a.all a.part a.stay a.work.now c.requires
    (sym (has_listed a.mask a.x.place c.requires.placed _ _ c.has_block.ensures) ∙ c.if-has_block.false) c.if-mask-x-eq0.false _ c.sum_miss.ensures
