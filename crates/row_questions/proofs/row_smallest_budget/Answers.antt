-- `row_smallest_budget` meets its contract: 7 for what is no row, and otherwise the smallest budget.
use mathlib.Core.Path.{sym, ◌∙◌}
use Rattle.row_questions.proofs.Answered.{budget_answered, budget_refused}
use Rattle.row_questions.proofs.row_smallest_budget.Goals as goal

pub returns-then-is_row : goal.returns-then-is_row
returns-then-is_row c = budget_answered _ (sym c.is_row.ensures ∙ c.if-is_row.true) _ _ c.smallest.ensures

pub returns : goal.returns
returns c = budget_refused _ (sym c.is_row.ensures ∙ c.if-is_row.false) _
