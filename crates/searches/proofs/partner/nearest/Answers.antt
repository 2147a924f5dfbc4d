-- `nearest` looks for those that hold all blocks, and where there are none among all.
use mathlib.Core.Path.{◌∙◌}
use borrow.Author.Tests.{lt-ltb, le-ltb}
use Rattle.searches.specs.Searches.{nearest}
use Rattle.searches.proofs.partner.nearest.Goals as goal

pub returns-then-first-n : goal.returns-then-first-n
unfolding nearest
returns-then-first-n c =
    let h = c.first_holder-first.ensures in
    c.nearest_holder.ensures ∙ rw (← h, lt-ltb _ _ c.if-first-n.true)

pub returns : goal.returns
unfolding nearest
returns c =
    let h = c.first_holder-first.ensures in
    c.nearest_of_all.ensures ∙ rw (← h, le-ltb _ _ c.if-first-n.false, c.one_fewer.ensures)
