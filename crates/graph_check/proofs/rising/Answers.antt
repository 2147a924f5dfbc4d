-- `rising` meets its contract.
use mathlib.Core.Path.{sym, ◌∙◌}
use Rattle.graph_check.proofs.Checks.{rising_next, rising_end}
use Rattle.graph_check.proofs.rising.Goals as goal

pub loop-e-preserved : goal.loop-e-preserved
loop-e-preserved c = rw (sym c.precedes.ensures ∙ c.if-not-precedes.false) at (rising_next _ _ _ c.loop-e.invariant c.loop-e.auto.e c.loop-e-test.true)

pub returns-then-not-precedes : goal.returns-then-not-precedes
returns-then-not-precedes c = rw (sym c.precedes.ensures ∙ c.if-not-precedes.true) at (rising_next _ _ _ c.loop-e.invariant c.loop-e.auto.e c.loop-e-test.true)

pub returns : goal.returns
returns c = rising_end _ _ _ c.loop-e.invariant c.loop-e.auto.e c.loop-e-test.false
