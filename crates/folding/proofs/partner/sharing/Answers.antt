-- `sharing` is the size of the contents that both masks hold.
use Rattle.rules.specs.Contents.{shared}
use Rattle.folding.proofs.partner.sharing.Goals as goal

pub returns : goal.returns
unfolding shared
returns c = c.size_of.ensures
