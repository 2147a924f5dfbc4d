-- `row_spread` meets its contract: 7 for what is no row, and otherwise the largest miss count.
use mathlib.Core.Path.{sym, ◌∙◌}
use Rattle.row_questions.proofs.Answered.{spread_answered, spread_refused}
use Rattle.row_questions.proofs.row_spread.Goals as goal

pub returns-then-is_row : goal.returns-then-is_row
returns-then-is_row c = spread_answered _ (sym c.is_row.ensures ∙ c.if-is_row.true) _ c.largest.ensures

pub returns : goal.returns
returns c = spread_refused _ (sym c.is_row.ensures ∙ c.if-is_row.false)
