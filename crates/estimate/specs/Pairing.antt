-- What is first of a table that is walked from the front.
use Rattle.rules.specs.declared.State.{State}
use Rattle.tables.specs.Fronts.{Front as AnyFront}
use Rattle.estimate.specs.declared.join.Front.{Front}

-- as it is said of any kind of table
abbrev pub front_of : Front → AnyFront State
front_of f = record { place = f.at; state = f.state }
