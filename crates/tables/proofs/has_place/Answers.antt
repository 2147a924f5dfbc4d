-- `has_place` reads the bit.
use Rattle.rules.specs.Contents.{bit}
use borrow.Author.Rules.{rules}
use Rattle.tables.proofs.has_place.Goals as goal

pub returns : goal.returns
unfolding bit
returns c = search rules
