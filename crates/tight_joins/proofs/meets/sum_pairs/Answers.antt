-- `sum_pairs` goes pair by pair.
use Rattle.tight_joins.proofs.PairsMet.{may_sum, sums_next}
use Rattle.tight_joins.proofs.meets.sum_pairs.Goals as goal

pub sum_pair-requires : goal.sum_pair-requires
sum_pair-requires c =
    let a = c.args in
    may_sum a.p a.plan a.n a.work.now c.requires c.loop-k.k c.loop-k.work c.loop-k-test.true c.loop-k.invariant

pub loop-k-preserved : goal.loop-k-preserved
loop-k-preserved c =
    let a = c.args in
    sums_next a.p a.plan a.n a.work.now c.requires c.loop-k.k c.loop-k.work c.loop-k-test.true c.loop-k.invariant _ c.sum_pair.ensures
