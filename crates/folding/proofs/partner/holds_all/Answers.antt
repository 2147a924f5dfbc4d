-- `holds_all` looks whether what both masks hold is the mask of `s`.
use Rattle.rules.specs.Contents.{shared}
use borrow.Author.Rules.{rules}
use Rattle.folding.proofs.partner.holds_all.Goals as goal

pub returns : goal.returns
unfolding shared
returns c = search rules
