-- `pile_on` goes cell by cell.
use native.Mathlib.Omega.{arith}
use Rattle.tight_rows.specs.Room.{words_of}
use Rattle.tight_joins.specs.Piling.{piled}
use Rattle.tight_rows.proofs.Writing.{none_written}
use Rattle.tight_rows.proofs.Totals.{plain}
use Rattle.tight_joins.proofs.Piled.{part_light, below_all, height_first, height_enough, height_next, height_put}
use Rattle.tight_joins.proofs.piles.pile_on.Goals as goal

pub overflow_sub-left : goal.overflow_sub-left
overflow_sub-left c =
    let a = c.args in
    let all = plain _ _ c.sum_of-all.ensures c.requires.2 in
    let below = plain _ _ c.sum_of-below.ensures (part_light a.at a.width a.by (words_of a.work.now) c.requires.0 c.requires.2) in
    omega (arith, below, all, below_all a.at a.width a.by (words_of a.work.now) c.requires.0)

pub loop-j-init : goal.loop-j-init
loop-j-init c =
    let a = c.args in
    let all = plain _ _ c.sum_of-all.ensures c.requires.2 in
    let below = plain _ _ c.sum_of-below.ensures (part_light a.at a.width a.by (words_of a.work.now) c.requires.0 c.requires.2) in
    (height_first a.at a.width a.by (words_of a.work.now) _ _ all below, none_written a.at (piled a.by a.width a.at) a.work.now)

pub overflow_sub-left-in-loop-j : goal.overflow_sub-left-in-loop-j
overflow_sub-left-in-loop-j c =
    let a = c.args in
    height_enough a.at a.width a.by a.work.now c.loop-j.work c.loop-j.j (omega arith) c.requires.1 c.loop-j.invariant.1 c.loop-j.left c.loop-j.invariant.0

pub loop-j-preserved : goal.loop-j-preserved
loop-j-preserved c =
    let i = c.loop-j.invariant in
    let a = c.args in (
      height_next a.at a.width a.by a.work.now c.loop-j.work c.loop-j.j (omega arith) c.requires.1 i.1 c.loop-j.left i.0,
      height_put a.at a.width a.by a.work.now c.loop-j.work c.loop-j.j (omega arith) c.requires.1 i.1 c.loop-j.left i.0,
    )
