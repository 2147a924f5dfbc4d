-- `plan_rows` makes the sums, and reduces them.
use native.Mathlib.Omega.{arith}
use Rattle.tight.proofs.Passing.{planned_so}
use Rattle.tight.proofs.steps.plan_rows.Goals as goal

pub reduce_plan-planned-requires : goal.reduce_plan-planned-requires
reduce_plan-planned-requires c =
    omega (arith, c.sum_all-over.ensures.long, c.requires.0)

pub returns : goal.returns
returns c =
    let a = c.args in
    planned_so a.ways a.x a.live a.s a.plan a.masks a.limit _ a.work.now _ _ c.sum_all-over.ensures _ c.live_place-held.ensures c.reduce_plan-planned.ensures

pub live_place-held-requires : goal.live_place-held-requires
live_place-held-requires c = c.requires.1.placed

pub sum_all-over-requires : goal.sum_all-over-requires
sum_all-over-requires c = c.requires.1
