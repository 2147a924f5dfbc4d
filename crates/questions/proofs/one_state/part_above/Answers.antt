-- `part_above` meets its contract: the test is the definition's.
use native.Mathlib.Omega.{arith}
use borrow.Author.Tests.{lt-ltb, le-ltb}
use Rattle.questions.proofs.one_state.part_above.Goals as goal

pub returns-then-budget-s : goal.returns-then-budget-s
returns-then-budget-s c = let a = c.args in rw (lt-ltb a.budget a.s.misses (omega (arith, c.if-budget-s.true)))

pub returns : goal.returns
returns c = let a = c.args in rw (le-ltb a.budget a.s.misses (omega (arith, c.if-budget-s.false)))
