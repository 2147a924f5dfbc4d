-- `agree`: what is known stays where the other says the same.
use mathlib.Core.Path.{sym, ◌∙◌}
use Rattle.nodes.proofs.Lasts.{agreed_same, agreed_not}
use Rattle.nodes.proofs.last.agree.Goals as goal

pub returns-then-is_last : goal.returns-then-is_last
returns-then-is_last c = let a = c.args in agreed_same a.one a.other _ c.in-Some.is (sym c.is_last.ensures ∙ c.if-is_last.true)

pub returns-in-None : goal.returns-in-None
returns-in-None c = rw c.in-None.is

pub returns-else-is_last : goal.returns-else-is_last
returns-else-is_last c = let a = c.args in agreed_not a.one a.other _ c.in-Some.is (sym c.is_last.ensures ∙ c.if-is_last.false)
