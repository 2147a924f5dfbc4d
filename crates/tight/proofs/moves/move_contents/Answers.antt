-- `move_contents` moves the whole row to one mask, or goes on to a miss.
use mathlib.Core.Path.{refl, sym, ◌∙◌}
use native.Mathlib.Nat.{le_refl}
use Rattle.rules.specs.Contents.{shared, with}
use Rattle.tables.proofs.Masks.{has_listed}
use Rattle.tight_rows.proofs.Raising.{live_part}
use Rattle.tight.proofs.Moving.{hit_came, safe_came, row_moved}
use Rattle.tight.proofs.moves.move_contents.Goals as goal

pub returns-then-has_block : goal.returns-then-has_block
unfolding shared
returns-then-has_block c =
    let a = c.args in
    hit_came a.ways a.x a.live a.r a.keep a.all a.mask a.work.now _ _ c.choosing.ensures _
    (sym (has_listed a.mask a.x.place c.requires.0 _ _ c.has_block.ensures) ∙ c.if-has_block.true) refl c.move_to.ensures

pub move_to-requires-then-mask-x-eq0 : goal.move_to-requires-then-mask-x-eq0
unfolding shared
move_to-requires-then-mask-x-eq0 c =
    let a = c.args in
    (rw c.choosing-then-mask-x-eq0.ensures c.requires.5, live_part (with a.mask a.x.place) a.live _ c.comes_to-end.ensures, le_refl 1)

pub returns-then-mask-x-eq0 : goal.returns-then-mask-x-eq0
unfolding shared
returns-then-mask-x-eq0 c =
    let a = c.args in
    safe_came a.ways a.x a.live a.r a.keep a.all a.mask a.work.now _ _ c.choosing-then-mask-x-eq0.ensures _
    (sym (has_listed a.mask a.x.place c.requires.0 _ _ c.has_block.ensures) ∙ c.if-has_block.false) c.if-mask-x-eq0.true c.comes_to-end.ensures c.move_to-then-mask-x-eq0.ensures

pub returns : goal.returns
unfolding shared
returns c =
    let a = c.args in
    row_moved a.ways a.x a.live a.r a.keep a.all a.mask a.work.now _
    (sym (has_listed a.mask a.x.place c.requires.0 _ _ c.has_block.ensures) ∙ c.if-has_block.false) c.if-mask-x-eq0.false c.move_miss.ensures
