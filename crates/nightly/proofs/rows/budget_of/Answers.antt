-- `budget_of` meets its contract: a table is not refused.
use Rattle.nightly.proofs.OneRow.{budget_told, budget_not_refused}
use Rattle.nightly.proofs.rows.budget_of.Goals as goal

pub returns-in-Ok : goal.returns-in-Ok
returns-in-Ok c = budget_told _ c.requires _ _ c.smallest_budget_in.ensures _ c.in-Ok.is

pub returns-in-Err : goal.returns-in-Err
returns-in-Err c = absurd (budget_not_refused _ c.requires _ _ c.smallest_budget_in.ensures _ c.in-Err.is)
