-- `meet` has the shared blocks, the larger miss count and the larger filled numbers.
use Rattle.rules.specs.Contents.{shared}
use Rattle.states.proofs.meet.Goals as goal

pub returns : goal.returns
unfolding shared
returns c = rw (c.fullest.ensures, c.larger.ensures)
