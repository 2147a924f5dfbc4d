-- `meet_pairs` goes pair by pair.
use Rattle.tight_joins.proofs.PairsMet.{may_meet_next, met_next}
use Rattle.tight_joins.proofs.meets.meet_pairs.Goals as goal

pub meet_pair-requires : goal.meet_pair-requires
meet_pair-requires c =
    let a = c.args in
    may_meet_next a.m a.n a.work.now c.requires c.loop-k.k c.loop-k.work c.loop-k-test.true c.loop-k.invariant

pub loop-k-preserved : goal.loop-k-preserved
loop-k-preserved c =
    let a = c.args in
    met_next a.m a.n a.work.now c.requires c.loop-k.k c.loop-k.work c.loop-k-test.true c.loop-k.invariant _ c.meet_pair.ensures
