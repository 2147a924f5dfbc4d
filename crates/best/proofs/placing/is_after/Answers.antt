-- `is_after` is what the order says, turned round.
use Rattle.rules.proofs.Best.{best_orders}
use Rattle.tables.proofs.Insertion.{after_turned}
use Rattle.best.proofs.placing.is_after.Goals as goal

pub returns : goal.returns
returns c = after_turned _ best_orders _ _ _ c.best_before.ensures
