-- `sum` adds units, as `Units::add` does.
use Rattle.rules.proofs.Splitting.{units_added}
use Rattle.plan.proofs.sum.Goals as goal

pub returns : goal.returns
returns c = units_added c.add-r.result _ _ c.add-r.ensures
