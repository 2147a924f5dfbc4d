-- `follow` goes from mask to mask.
use mathlib.Core.Path.{◌∙◌}
use Prim.Native.Nat.{◌-◌, ◌+◌}
use native.Mathlib.Omega.{arith}
use Rattle.rules.specs.Contents.{places}
use Rattle.rules.proofs.Contents.{sixteen_places}
use Rattle.plan.proofs.Steps.{onward_next}
use Rattle.plan.proofs.follow.Goals as goal

pub loop-step-preserved : goal.loop-step-preserved
loop-step-preserved c =
    let l = c.loop-step in
    let a = c.args in
    (omega arith, omega arith, onward_next (places - l._step) (places - (l._step + 1)) (omega (arith, sixteen_places)) a.masks a.words.now l.at l.invariant.1 c.if-at-next.false ∙ l.invariant.2)
