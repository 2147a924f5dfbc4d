-- `hit_spread` meets its contract: what is held of the row is asked, and a copied row is asked as the row itself.
use Rattle.std.proofs.Common.{◌∙◌}
use Rattle.rows.proofs.Copies.{hit_spread_copied}
use Rattle.rows.proofs.hit_spread.Goals as goal

pub returns : goal.returns
returns c = c.hit_spread_held.ensures ∙ rw c.copy_best.ensures (hit_spread_copied _ _)
