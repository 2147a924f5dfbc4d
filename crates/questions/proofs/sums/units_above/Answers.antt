-- `units_above` meets its contract.
use native.Mathlib.Nat.{zero-add}
use native.Mathlib.Omega.{arith}
use Rattle.rules.proofs.Questions.{above_most}
use Rattle.words.specs.Tables.{table_of}
use Rattle.questions.proofs.Amounts.{above_next, above_end}
use Rattle.questions.proofs.sums.units_above.Goals as goal

pub loop-i-init : goal.loop-i-init
loop-i-init c = zero-add _

pub overflow_add-sum : goal.overflow_add-sum
overflow_add-sum c =
    let a = c.args in
    let next = above_next _ _ _ _ c.loop-i.invariant c.loop-i-test.true _ c.state_at.ensures _ c.part_above-sum.ensures in
    omega (arith, next, above_most a.budget (table_of a.words.now), c.requires)

pub loop-i-preserved : goal.loop-i-preserved
loop-i-preserved c = omega (arith, above_next _ _ _ _ c.loop-i.invariant c.loop-i-test.true _ c.state_at.ensures _ c.part_above-sum.ensures)

pub returns : goal.returns
returns c = above_end _ _ _ _ c.loop-i.invariant c.loop-i-test.false
