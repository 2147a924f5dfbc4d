-- `move_on` changes places with each head behind it that is less.
use native.Mathlib.Omega.{arith}
use Rattle.heads.proofs.Rows.{going_next, going_end, stays_outside, stays_open}
use Rattle.heads.proofs.move_on.Goals as goal

pub returns-then-heads-at : goal.returns-then-heads-at
returns-then-heads-at c = stays_outside _ _ _ (omega (arith, c.if-heads-at.true))

pub returns-then-last-at : goal.returns-then-last-at
returns-then-last-at c = stays_outside _ _ _ c.if-last-at.true

pub returns-then-heads-last : goal.returns-then-heads-last
returns-then-heads-last c = stays_open _ _ _ (omega (arith, c.if-last-at.false)) c.if-heads-last.true

pub loop-other-preserved : goal.loop-other-preserved
loop-other-preserved c = let l = c.loop-other in going_next _ _ _ l.heads l.j l.other l.invariant c.loop-other-test.true

pub returns : goal.returns
returns c = let l = c.loop-other in going_end _ _ _ l.heads l.j l.other l.invariant (omega (arith, c.loop-other-test.false))
