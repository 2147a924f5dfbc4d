-- `miss_spread` meets its contract: what is held of the row is asked, and a copied row is asked as the row itself.
use Rattle.std.proofs.Common.{◌∙◌}
use Rattle.rows.proofs.Copies.{miss_spread_copied}
use Rattle.rows.proofs.miss_spread.Goals as goal

pub returns : goal.returns
returns c = c.miss_spread_held.ensures ∙ rw c.copy_best.ensures (miss_spread_copied _ _)
