-- `at_risk`: no block while a way of the set may be empty, and else those that are held of the set.
use Rattle.std.proofs.Common.{le-ltb, lt-ltb}
use Rattle.rules.specs.Contents.{shared}
use Rattle.rules.specs.Step.{at_risk}
use Rattle.states.proofs.step.at_risk.Goals as goal

pub returns-then-number_of-ways : goal.returns-then-number_of-ways
unfolding at_risk
returns-then-number_of-ways c = rw (← c.number_of.ensures, lt-ltb _ _ c.if-number_of-ways.true)

pub returns : goal.returns
unfolding at_risk shared
returns c = rw (← c.number_of.ensures, le-ltb _ _ c.if-number_of-ways.false)
