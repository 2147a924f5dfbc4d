-- `climb` goes through the levels.
use mathlib.Core.Path.{◌∙◌}
use Prim.Native.Nat.{◌+◌, ◌-◌, ◌^◌}
use native.Mathlib.Omega.{arith}
use Rattle.tables.proofs.Masks.{one_shifted}
use Rattle.plan.specs.Plan.{plan_of}
use Rattle.plan.proofs.Steps.{levels_next, still_heavy, twice}
use Rattle.plan.proofs.climb.Goals as goal

pub loop-height-preserved : goal.loop-height-preserved
loop-height-preserved c =
    let l = c.loop-height in
    let a = c.args in
    let power = one_shifted l.height (omega arith) in (
      λ k. still_heavy a.limit a.masks a.held _ a.low (plan_of l.words l.t) _ c.climb_one-t.ensures (λ m. l.invariant.0 (omega (arith, power))) (omega (arith, power, twice l.height)),
      levels_next a.limit a.masks a.held (50 - l.height) (50 - (l.height + 1)) l.height (l.height + 1) (omega arith) (omega arith) (plan_of l.words l.t) _ c.if-t-limit.false _ c.climb_one-t.ensures (omega (arith, power))
          ∙ l.invariant.1,
    )
