-- `meets` tests that there is a state at the place and that it stands in the same place.
use mathlib.Core.Path.{◌∙◌}
use borrow.Author.Tests.{lt-ltb, le-ltb}
use Rattle.best.proofs.placing.meets.Goals as goal

pub returns-then-at-n : goal.returns-then-at-n
returns-then-at-n c = rw (lt-ltb _ _ c.if-at-n.true) (c.is_same.ensures ∙ rw c.load.ensures)

pub returns : goal.returns
returns c = rw (le-ltb _ _ c.if-at-n.false)
