-- `above_cycles` meets its contract: what is held of the row is asked, and a copied row is asked as the row itself.
use Rattle.std.proofs.Common.{◌∙◌}
use Rattle.rows.proofs.Copies.{above_cycles_copied}
use Rattle.rows.proofs.above_cycles.Goals as goal

pub returns : goal.returns
returns c = c.above_cycles_held.ensures ∙ rw c.copy.ensures (above_cycles_copied _ _ _ _)
