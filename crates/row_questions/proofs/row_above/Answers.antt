-- `row_above` meets its contract: 7 for what is no row, and otherwise the units above.
use mathlib.Core.Path.{sym, ◌∙◌}
use native.Mathlib.Nat.{le_of_eq}
use Rattle.row_questions.proofs.Answered.{row_total, above_answered, above_refused}
use Rattle.row_questions.proofs.row_above.Goals as goal

pub units_above-requires : goal.units_above-requires
units_above-requires c = le_of_eq (row_total _ (sym c.is_row.ensures ∙ c.if-is_row.true))

pub returns-then-is_row : goal.returns-then-is_row
returns-then-is_row c = above_answered _ (sym c.is_row.ensures ∙ c.if-is_row.true) _ _ c.units_above.ensures

pub returns : goal.returns
returns c = above_refused _ (sym c.is_row.ensures ∙ c.if-is_row.false) _
