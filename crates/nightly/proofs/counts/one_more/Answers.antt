-- `one_more` meets its contract: one is added where the numbers are the same.
use mathlib.Core.Path.{sym}
use native.Mathlib.Nat.{add-zero}
use borrow.Author.Tests.{eq-eqb, ne_eqb}
use Rattle.nightly.proofs.counts.one_more.Goals as goal

pub returns-then-refusal-number : goal.returns-then-refusal-number
returns-then-refusal-number c = rw (eq-eqb _ _ c.if-refusal-number.true)

pub returns : goal.returns
returns c = rw (ne_eqb _ _ c.if-refusal-number.false) (sym (add-zero _))
