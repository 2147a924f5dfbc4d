-- `sum_rows` goes through the rows.
use Rattle.tight.proofs.RowsSummed.{still_sending, may_sum, summed_next}
use Rattle.tight.proofs.totals.sum_rows.Goals as goal

pub sum_row-requires : goal.sum_row-requires
sum_row-requires c =
    let a = c.args in
    let inv = c.loop-k.invariant in (
      c.loop-k-test.true,
      still_sending a.s a.plan _ a.work.now c.loop-k.work inv.long c.requires.0,
      may_sum a.ways a.x a.live a.s a.plan a.work.now c.requires.0 c.requires.1 c.loop-k.k c.loop-k.work c.loop-k-test.true inv,
    )

pub loop-k-preserved : goal.loop-k-preserved
loop-k-preserved c =
    let a = c.args in
    summed_next a.ways a.x a.live a.s a.plan a.work.now c.requires.0 c.requires.1 c.loop-k.k c.loop-k.work c.loop-k-test.true c.loop-k.invariant _ c.sum_row.ensures
