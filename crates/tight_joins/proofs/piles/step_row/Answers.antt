-- `step_row` goes cell by cell.
use mathlib.Core.Path.{refl, ap₂, ◌∙◌}
use Prim.Native.Nat.{◌-◌}
use Rattle.tight_joins.proofs.Piled.{step_put}
use Rattle.tight_joins.proofs.piles.step_row.Goals as goal

pub loop-j-preserved : goal.loop-j-preserved
loop-j-preserved c =
    let a = c.args in
    step_put a.at a.width a.work.now c.loop-j.work c.loop-j.j c.loop-j-test.true c.requires c.loop-j.invariant _ (c.saturating_sub.ensures ∙ ap₂ ◌-◌ refl c.next_height-next.ensures)
