-- The working room, as states: what is said of any kind of state, for this table's, of which nothing is ever set aside.
use Rattle.std.specs.Prelude.{List, ℕ}
use Rattle.rules.specs.declared.BestState.{BestState}
use Rattle.rules.specs.Best.{listing}
pub use Rattle.tables.specs.Rooms.{InScratch, slot_of}
use Rattle.tables.specs.Rooms.{Stands as StandsAny, InPlace as InPlaceAny, filled as filled_any, table_in as table_in_any, worked_in as worked_in_any, NodeDone as NodeDoneAny}
use Rattle.best.specs.Tables.{Work, Worked}

-- w in the first n states of T, with nothing set aside
abbrev pub Stands : Work → ℕ → List BestState → Type 0
Stands w n T = StandsAny w n 0 T

-- w at place p, and what is before that place is as it was
abbrev pub InPlace : Work → ℕ → ℕ → List BestState → List BestState → Type 0
InPlace w p n T T' = InPlaceAny w p n 0 T T'

-- how many states stand before the first of 0 units
abbrev pub filled : List BestState → ℕ
filled T = filled_any listing T

-- the table in slot j: its states before the first of 0 units
abbrev pub table_in : ℕ → List BestState → List BestState
table_in j T = table_in_any listing j T

-- the nodes before node j
abbrev pub worked_in : ℕ → List BestState → Worked
worked_in j T = worked_in_any listing j 0 T

-- node j is worked to w: its table is in its slot, and the slots before it are as they were
abbrev pub NodeDone : Work → ℕ → List BestState → List BestState → Type 0
NodeDone w j T T' = NodeDoneAny listing w j 0 T T'
