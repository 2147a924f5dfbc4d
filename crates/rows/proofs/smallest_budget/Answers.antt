-- `smallest_budget` meets its contract: what is held of the row is asked, and a copied row is asked as the row itself.
use Rattle.std.proofs.Common.{◌∙◌}
use Rattle.rows.proofs.Copies.{budget_copied}
use Rattle.rows.proofs.smallest_budget.Goals as goal

pub returns : goal.returns
returns c = c.budget_held.ensures ∙ rw c.copy.ensures (budget_copied _ _)
