-- `first_other` is the first place, but where that is out.
use native.Mathlib.Omega.{arith}
use borrow.Author.Tests.{eq-eqb, ne_eqb}
use Rattle.searches.proofs.partner.first_other.Goals as goal

pub returns-then-at-eq0 : goal.returns-then-at-eq0
returns-then-at-eq0 c = (rw (eq-eqb _ 0 c.if-at-eq0.true), omega arith)

pub returns : goal.returns
returns c = (rw (ne_eqb _ 0 c.if-at-eq0.false), omega arith)
