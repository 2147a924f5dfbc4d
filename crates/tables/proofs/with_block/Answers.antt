-- `with_block`: a place of the mask; an untracked block changes nothing.
use Rattle.rules.specs.Contents.{with}
use Rattle.tables.proofs.with_block.Goals as goal

pub returns-in-None : goal.returns-in-None
unfolding with
returns-in-None c = rw c.in-None.is
