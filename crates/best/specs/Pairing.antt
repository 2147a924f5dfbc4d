-- What is first of a table that is walked from the front.
use Rattle.rules.specs.declared.BestState.{BestState}
use Rattle.tables.specs.Fronts.{Front as AnyFront}
use Rattle.best.specs.declared.join.Front.{Front}

-- as it is said of any kind of table
abbrev pub front_of : Front → AnyFront BestState
front_of f = record { place = f.at; state = f.state }
