-- `spread` meets its contract: what is held of the row is asked, and a copied row is asked as the row itself.
use Rattle.std.proofs.Common.{◌∙◌}
use Rattle.rows.proofs.Copies.{spread_copied}
use Rattle.rows.proofs.spread.Goals as goal

pub returns : goal.returns
returns c = c.spread_held.ensures ∙ rw c.copy.ensures (spread_copied _ _)
