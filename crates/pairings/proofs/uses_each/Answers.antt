-- `uses_each` goes through the states.
use Rattle.pairings.proofs.Rows.{each_next, each_end}
use Rattle.pairings.proofs.uses_each.Goals as goal

pub returns-then-not-spends : goal.returns-then-not-spends
returns-then-not-spends c = rw c.if-not-spends.true at (each_next _ _ _ _ _ c.loop-a.invariant c.loop-a-test.true _ c.state_at-s.ensures _ c.spends.ensures)

pub loop-a-preserved : goal.loop-a-preserved
loop-a-preserved c = rw c.if-not-spends.false at (each_next _ _ _ _ _ c.loop-a.invariant c.loop-a-test.true _ c.state_at-s.ensures _ c.spends.ensures)

pub returns : goal.returns
returns c = each_end _ _ _ _ _ c.loop-a.invariant c.loop-a-test.false
