-- `budget_of` meets its contract: 7 for what is no table, and otherwise the smallest budget.
use mathlib.Core.Path.{sym, ◌∙◌}
use native.Mathlib.Nat.{le_of_eq}
use Rattle.rules.proofs.Questions.{table_total, budget_answered, budget_refused}
use Rattle.questions.proofs.answers.budget_of.Goals as goal

pub smallest-requires : goal.smallest-requires
smallest-requires c = le_of_eq (table_total _ (sym c.is_table.ensures ∙ c.if-is_table.true))

pub returns-then-is_table : goal.returns-then-is_table
returns-then-is_table c = budget_answered _ (sym c.is_table.ensures ∙ c.if-is_table.true) _ _ c.smallest.ensures

pub returns : goal.returns
returns c = budget_refused _ (sym c.is_table.ensures ∙ c.if-is_table.false) _
