-- `after_node` meets its contract.
use Rattle.std.proofs.Common.{◌-◌, ◌*◌, arith}
use Rattle.live.proofs.Lives.{after_end, after_next}
use Rattle.live.proofs.after_node.Goals as goal

pub loop-e-init : goal.loop-e-init
loop-e-init c = let a = c.args in after_end a.starts.now a.edges.now a.v _ (omega arith)

pub loop-e-preserved : goal.loop-e-preserved
loop-e-preserved c =
    let l = c.loop-e in
    let a = c.args in
    after_next a.starts.now a.edges.now a.v (2 * l.e) (2 * (l.e - 1)) l.live _ (omega arith) (omega arith) l.invariant c.along-live.ensures
