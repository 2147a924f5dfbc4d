-- `filled_to` goes cell by cell.
use mathlib.Core.Path.{refl}
use Rattle.tight_ends.specs.Settling.{filled_to}
use Rattle.tight_ends.proofs.FilledFound.{filled_to_next}
use Rattle.tight_ends.proofs.settle.filled_to.Goals as goal

pub loop-j-init : goal.loop-j-init
unfolding filled_to
loop-j-init c = refl

pub loop-j-preserved : goal.loop-j-preserved
loop-j-preserved c = filled_to_next _ c.loop-j.j _ _ _ c.loop-j.invariant c.filled_in.ensures c.fullest-f.ensures
