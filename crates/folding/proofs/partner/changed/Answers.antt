-- `changed` gives no units where the two stand in the same place, and else all of them.
use Rattle.states.proofs.Same.{changed_none, changed_all}
use Rattle.folding.proofs.partner.changed.Goals as goal

pub returns-then-is_same : goal.returns-then-is_same
returns-then-is_same c = let a = c.args in changed_none a.s a.m _ c.is_same.ensures c.if-is_same.true

pub returns : goal.returns
returns c = let a = c.args in changed_all a.s a.m _ c.is_same.ensures c.if-is_same.false
