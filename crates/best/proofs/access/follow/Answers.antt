-- `follow`: an open state stays; a held block is a hit, and any other access a miss.
use mathlib.Core.Path.{sym, ◌∙◌}
use native.Mathlib.Omega.{arith}
use Rattle.best.proofs.Following.{open_put, hit_put, miss_goes}
use Rattle.tables.proofs.Masks.{has_listed}
use Rattle.best.proofs.access.follow.Goals as goal

pub add-requires : goal.add-requires
add-requires c = let p = c.requires in (omega (arith, p.3), p.4)

pub returns-then-has_block : goal.returns-then-has_block
returns-then-has_block c =
    let a = c.args in
    hit_put a.ways a.x a.s _ _ _ _ c.if-s.true (sym (has_listed _ _ c.requires.0 _ _ c.has_block.ensures) ∙ c.if-has_block.true) _ c.hit.ensures c.add.ensures

pub returns-then-s : goal.returns-then-s
returns-then-s c =
    let a = c.args in
    miss_goes a.ways a.x a.s _ _ _ _ c.if-s.true (sym (has_listed _ _ c.requires.0 _ _ c.has_block.ensures) ∙ c.if-has_block.false) c.miss.ensures

pub add-requires-2 : goal.add-requires-2
add-requires-2 c = let p = c.requires in (omega (arith, p.3), p.4)

pub returns : goal.returns
returns c = let a = c.args in open_put a.ways a.x a.s _ _ _ _ c.if-s.false c.add-2.ensures
