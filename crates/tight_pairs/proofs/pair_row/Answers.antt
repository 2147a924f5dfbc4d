-- `pair_row` goes row by row.
use Rattle.tight_pairs.proofs.Matched.{row_start_lem, row_next}
use Rattle.tight_pairs.proofs.pair_row.Goals as goal

pub loop-j-init : goal.loop-j-init
loop-j-init c =
    let a = c.args in
    row_start_lem a.p a.pairs a.work.now c.requires.0 a.blocks a.i

pub loop-j-preserved : goal.loop-j-preserved
loop-j-preserved c =
    let a = c.args in
    row_next a.p a.pairs a.work.now c.requires.0 a.blocks a.i c.loop-j.j c.loop-j.n _ c.loop-j.work _ c.requires.1 c.loop-j-test.true c.loop-j.invariant
    c.pair_sharing-n.ensures
