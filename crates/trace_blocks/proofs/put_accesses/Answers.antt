-- `put_accesses` meets its contract.
use mathlib.Core.Path.{refl}
use native.Mathlib.Omega.{arith}
use Rattle.trace_blocks.proofs.Stored.{put_next, put_end}
use Rattle.trace_blocks.proofs.put_accesses.Goals as goal

pub loop-i-init : goal.loop-i-init
loop-i-init c = refl

pub loop-i-preserved : goal.loop-i-preserved
loop-i-preserved c = put_next _ _ _ _ c.loop-i.invariant c.loop-i-test.true _ c.put_four.ensures

pub returns : goal.returns
returns c = put_end _ _ _ _ c.loop-i.invariant c.loop-i-test.false (omega arith)
