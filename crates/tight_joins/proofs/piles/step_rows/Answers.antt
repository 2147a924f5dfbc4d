-- `step_rows` goes row by row.
use Rattle.tight_joins.specs.Piling.{stepped}
use Rattle.tight_joins.proofs.Piled.{stepped_own, row_done}
use Rattle.tight_joins.proofs.piles.step_rows.Goals as goal

pub loop-k-preserved : goal.loop-k-preserved
loop-k-preserved c =
    let a = c.args in
    row_done a.b (stepped a.b.width) a.work.now c.requires c.loop-k.k c.loop-k.work c.loop-k-test.true c.loop-k.invariant (stepped_own a.b.width) _ c.step_row.ensures
