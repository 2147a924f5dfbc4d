-- `each_core` goes core by core.
use Rattle.lines.proofs.CoreLines.{cores_none, cores_more}
use Rattle.lines.proofs.cores.each_core.Goals as goal

pub loop-number-init : goal.loop-number-init
loop-number-init c = cores_none _ _ _ _

pub loop-number-preserved : goal.loop-number-preserved
loop-number-preserved c = cores_more _ _ _ _ _ _ _ c.loop-number.invariant _ _ c.put_core-end.ensures
