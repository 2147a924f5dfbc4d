-- `settled_filled` asks which cell it is.
use Rattle.tight_ends.proofs.FilledFound.{settled_first, settled_other}
use Rattle.tight_ends.proofs.settle.settled_filled.Goals as goal

pub returns-then-i-eq0 : goal.returns-then-i-eq0
returns-then-i-eq0 c = settled_first _ _ _ _ c.if-i-eq0.true c.filled_to.ensures

pub returns : goal.returns
returns c = settled_other _ _ _ _ c.if-i-eq0.false c.filled_in.ensures
