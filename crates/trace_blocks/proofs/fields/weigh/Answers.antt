-- `weigh` meets its contract.
use native.Mathlib.Nat.{zero-add}
use borrow.Author.Rules.{rules}
use Rattle.trace_blocks.proofs.Bytes.{weighed_next, weighed_end}
use Rattle.trace_blocks.proofs.fields.weigh.Goals as goal

pub loop-i-init : goal.loop-i-init
loop-i-init c = (search rules, zero-add _)

pub loop-i-preserved : goal.loop-i-preserved
loop-i-preserved c =
    (search rules, weighed_next _ _ _ _ c.loop-i.invariant.1 c.loop-i-test.true _ c.weighed_byte-sum.ensures.0)

pub returns : goal.returns
returns c = weighed_end _ _ _ _ c.loop-i.invariant.1 c.loop-i-test.false
