-- `left_over` is the rest of the division where the block is not held and a block can be lost, and else 0.
use Rattle.std.proofs.Common.{sym, ◌∙◌}
use Rattle.rules.proofs.Splitting.{split_rest}
use Rattle.states.proofs.Steps.{over_none, over_safe, over_rest}
use Rattle.states.proofs.step.left_over.Goals as goal

pub returns-then-has_block : goal.returns-then-has_block
returns-then-has_block c = over_none _ _ _ (sym c.has_block.ensures ∙ c.if-has_block.true)

pub returns-then-at_risk-eq0 : goal.returns-then-at_risk-eq0
returns-then-at_risk-eq0 c = over_safe _ _ _ (sym c.has_block.ensures ∙ c.if-has_block.false) _ c.at_risk.ensures c.if-at_risk-eq0.true

pub returns : goal.returns
returns c =
    over_rest _ _ _ (sym c.has_block.ensures ∙ c.if-has_block.false) _ c.at_risk.ensures c.if-at_risk-eq0.false _ (split_rest _ _ _ c.split.ensures)
