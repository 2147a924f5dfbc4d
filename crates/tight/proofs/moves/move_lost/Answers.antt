-- `move_lost` goes through the 16 places.
use native.Mathlib.Omega.{arith}
use borrow.Author.Rules.{rules}
use Rattle.tight.proofs.Moving.{came_from_none, came_onward, came_movable, came_in_all}
use Rattle.tight.proofs.moves.move_lost.Goals as goal

pub loop-at-init : goal.loop-at-init
loop-at-init c =
    let a = c.args in
    came_from_none a.r a.mask a.risk a.x a.live a.work.now

pub move_one-requires : goal.move_one-requires
move_one-requires c =
    let l = c.loop-at in
    let a = c.args in
    (c.requires.0, search rules, came_movable a.r a.mask a.risk a.x a.live 16 a.work.now c.requires.1 l.at 1 l.work (omega arith) l.invariant)

pub loop-at-preserved : goal.loop-at-preserved
loop-at-preserved c =
    let a = c.args in
    came_onward a.r a.mask a.risk a.x a.live 16 a.work.now c.requires.1 c.loop-at.at c.loop-at.work _ c.loop-at.invariant c.move_one.ensures

pub returns : goal.returns
returns c =
    let a = c.args in
    let l = c.loop-at in
    came_in_all a.r a.mask a.risk a.x a.live l.at a.work.now l.work (omega arith) l.invariant
