-- `pair_all` goes down level by level.
use Rattle.rules.specs.Contents.{places}
use Rattle.tight_pairs.proofs.Matched.{all_left, turns_start, turns_next}
use Rattle.tight_pairs.proofs.pair_all.Goals as goal

pub loop-k-init : goal.loop-k-init
loop-k-init c =
    let a = c.args in
    turns_start a.p 0 a.work.now (all_left a.p a.work.now c.requires)

pub loop-k-preserved : goal.loop-k-preserved
unfolding places
loop-k-preserved c =
    let a = c.args in
    turns_next a.p 0 a.work.now (all_left a.p a.work.now c.requires) c.loop-k.k c.loop-k.n _ c.loop-k.work _ c.loop-k.invariant
    c.pair_rows-n.ensures
