-- `above_of` meets its contract: 7 for what is no table, and otherwise the units above.
use mathlib.Core.Path.{sym, ◌∙◌}
use native.Mathlib.Nat.{le_of_eq}
use Rattle.rules.proofs.Questions.{table_total, above_answered, above_refused}
use Rattle.questions.proofs.answers.above_of.Goals as goal

pub units_above-requires : goal.units_above-requires
units_above-requires c = le_of_eq (table_total _ (sym c.is_table.ensures ∙ c.if-is_table.true))

pub returns-then-is_table : goal.returns-then-is_table
returns-then-is_table c = above_answered _ (sym c.is_table.ensures ∙ c.if-is_table.true) _ _ c.units_above.ensures

pub returns : goal.returns
returns c = above_refused _ (sym c.is_table.ensures ∙ c.if-is_table.false) _
