-- `pile_rows` goes row by row.
use Rattle.tight_joins.specs.Piling.{piled}
use Rattle.tight_joins.proofs.Piled.{piled_own, row_room, row_light, row_done}
use Rattle.tight_joins.proofs.piles.pile_rows.Goals as goal

pub pile_row-requires : goal.pile_row-requires
pile_row-requires c =
    let a = c.args in
    let p = c.requires.0 in
    let so = c.loop-k.invariant in (
      c.requires.1,
      row_room a.b (piled a.by a.b.width) a.work.now p c.loop-k.k c.loop-k.work c.loop-k-test.true so,
      row_light a.b (piled a.by a.b.width) a.work.now p c.loop-k.k c.loop-k.work c.loop-k-test.true so c.requires.2,
    )

pub loop-k-preserved : goal.loop-k-preserved
loop-k-preserved c =
    let a = c.args in
    row_done a.b (piled a.by a.b.width) a.work.now c.requires.0 c.loop-k.k c.loop-k.work c.loop-k-test.true c.loop-k.invariant (piled_own a.by a.b.width) _ c.pile_row.ensures
