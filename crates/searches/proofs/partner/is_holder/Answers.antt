-- `is_holder` tests for another place, and then for all blocks.
use borrow.Author.Tests.{eq-eqb, ne_eqb}
use Rattle.searches.proofs.partner.is_holder.Goals as goal

pub returns-then-j-at : goal.returns-then-j-at
returns-then-j-at c = rw (eq-eqb _ _ c.if-j-at.true)

pub returns : goal.returns
returns c = rw (ne_eqb _ _ c.if-j-at.false, ← c.load.ensures) c.holds_all.ensures
