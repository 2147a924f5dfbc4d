-- `pair_rows` goes row by row.
use Rattle.tight_pairs.proofs.Matched.{rows_start, rows_next}
use Rattle.tight_pairs.proofs.pair_rows.Goals as goal

pub loop-i-init : goal.loop-i-init
loop-i-init c =
    let a = c.args in
    rows_start a.p a.pairs a.work.now c.requires a.blocks

pub loop-i-preserved : goal.loop-i-preserved
loop-i-preserved c =
    let a = c.args in
    rows_next a.p a.pairs a.work.now c.requires a.blocks c.loop-i.i c.loop-i.n _ c.loop-i.work _ c.loop-i-test.true c.loop-i.invariant
    c.pair_rest-n.ensures
