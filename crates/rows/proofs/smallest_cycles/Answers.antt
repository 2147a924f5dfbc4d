-- `smallest_cycles` meets its contract: what is held of the row is asked, and a copied row is asked as the row itself.
use Rattle.std.proofs.Common.{◌∙◌}
use Rattle.rows.proofs.Copies.{cycle_budget_copied}
use Rattle.rows.proofs.smallest_cycles.Goals as goal

pub returns : goal.returns
returns c = c.cycle_budget_held.ensures ∙ rw c.copy.ensures (cycle_budget_copied _ _ _ _)
