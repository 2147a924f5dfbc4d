-- `stage_row` adds the row to those that hit, or to those that miss.
use mathlib.Core.Path.{sym, ◌∙◌}
use Rattle.tables.proofs.Masks.{has_listed}
use Rattle.tight.proofs.ColumnsCounted.{hit_addable, missed_place, hit_counted, missed_counted}
use Rattle.tight.proofs.stages.stage_row.Goals as goal

pub add_row-requires : goal.add_row-requires
add_row-requires c =
    let a = c.args in
    hit_addable a.cells a.stage a.x a.s a.k c.requires.1 a.work.now c.requires.2 c.requires.3

pub returns-then-has_block : goal.returns-then-has_block
returns-then-has_block c =
    let a = c.args in
    hit_counted a.cells a.stage a.x a.s a.k c.requires.1 a.work.now c.requires.2 c.requires.3 _
    (sym (has_listed _ a.x.place c.requires.0 _ _ c.has_block.ensures) ∙ c.if-has_block.true) c.add_row.ensures

pub returns : goal.returns
returns c =
    let a = c.args in
    missed_counted a.cells a.stage a.x a.s a.k c.requires.1 a.work.now c.requires.2 c.requires.3 _
    (sym (has_listed _ a.x.place c.requires.0 _ _ c.has_block.ensures) ∙ c.if-has_block.false) _ (missed_place a.cells a.stage) c.add_row-2.ensures
