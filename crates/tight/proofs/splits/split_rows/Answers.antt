-- `split_rows` goes row by row.
use Rattle.tight.proofs.RowsSplit.{may_split, shared_next}
use Rattle.tight.proofs.splits.split_rows.Goals as goal

pub split_contents-requires : goal.split_contents-requires
split_contents-requires c =
    let a = c.args in
    let may = may_split a.ways a.x a.s a.work.now c.requires.1 c.loop-k.k c.loop-k.work c.loop-k-test.true c.loop-k.invariant in
    (c.requires.0, may.0, may.1)

pub loop-k-preserved : goal.loop-k-preserved
loop-k-preserved c =
    let a = c.args in
    shared_next a.ways a.x a.s a.work.now c.requires.1 c.loop-k.k c.loop-k.work c.loop-k-test.true c.loop-k.invariant _ c.split_contents.ensures
