-- `next_few` goes down by four masks, as `next_singly` does by one, with the same invariant.
use mathlib.Core.Path.{◌≡◌, ◌∙◌}
use Prim.Native.Nat.{◌-◌}
use native.Mathlib.Omega.{arith}
use Rattle.plan.specs.Next.{next_few}
use Rattle.plan.proofs.Steps.{four_some, next_most}
use Rattle.plan.proofs.next_few.Goals as goal

pub returns-then-found-gt0 : goal.returns-then-found-gt0
returns-then-found-gt0 c =
    let l = c.loop-m in
    let a = c.args in
    let found : c.few_of_four-found.result ≡ next_few a.bound a.words.now a.from =
    four_some a.bound a.words.now l.m (l.m - 4) (omega arith) _ c.few_of_four-found.ensures c.if-found-gt0.true ∙ l.invariant.1 in
    (found, rw found (next_most a.bound a.words.now a.from))
