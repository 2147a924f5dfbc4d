-- `living` meets its contract: each access comes before those behind it.
use Rattle.std.proofs.Common.{arith}
use Rattle.live.proofs.Lives.{living_next}
use Rattle.live.proofs.living.Goals as goal

pub loop-i-preserved : goal.loop-i-preserved
loop-i-preserved c =
    let l = c.loop-i in
    let a = c.args in
    living_next a.tracked.now a.live a.run.now l.i l.so_far _ (omega arith) (omega arith) l.invariant c.with_access-so_far.ensures
