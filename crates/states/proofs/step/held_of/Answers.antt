-- `held_of` is what two masks share.
use Rattle.std.proofs.Common.{refl}
use Rattle.rules.specs.Contents.{shared}
use Rattle.states.proofs.step.held_of.Goals as goal

pub returns : goal.returns
unfolding shared
returns c = refl
