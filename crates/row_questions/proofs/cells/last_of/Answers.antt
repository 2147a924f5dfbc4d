-- `last_of` meets its contract.
use borrow.Author.Tests.{eq-eqb, ne_eqb}
use Rattle.row_questions.proofs.cells.last_of.Goals as goal

pub returns-then-units-eq0 : goal.returns-then-units-eq0
returns-then-units-eq0 c = rw (eq-eqb _ 0 c.if-units-eq0.true)

pub returns : goal.returns
returns c = rw (ne_eqb _ 0 c.if-units-eq0.false)
