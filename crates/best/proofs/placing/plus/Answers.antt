-- `plus` adds the units as `Units::add` does, and keeps the place.
use Rattle.rules.specs.Units.{add_of}
use Rattle.best.proofs.placing.plus.Goals as goal

pub returns : goal.returns
unfolding add_of
returns c = rw c.add.ensures
