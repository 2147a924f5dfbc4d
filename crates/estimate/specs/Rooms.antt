-- The working room, as states: what is said of any kind of state, for this table's.
use Rattle.std.specs.Prelude.{List, ℕ}
use Rattle.rules.specs.declared.State.{State}
use Rattle.rules.specs.Table.{listing, Work}
use Rattle.rules.specs.Graph.{Worked}
pub use Rattle.tables.specs.Rooms.{InScratch, Stands, InPlace, slot_of}
use Rattle.tables.specs.Rooms.{filled as filled_any, table_in as table_in_any, worked_in as worked_in_any, NodeDone as NodeDoneAny}

-- how many states stand before the first of 0 units
abbrev pub filled : List State → ℕ
filled T = filled_any listing T

-- the table in slot j: its states before the first of 0 units
abbrev pub table_in : ℕ → List State → List State
table_in j T = table_in_any listing j T

-- the nodes before node j, with the set-aside count a
abbrev pub worked_in : ℕ → ℕ → List State → Worked
worked_in j a T = worked_in_any listing j a T

-- node j is worked to w: its table is in its slot, and the slots before it are as they were
abbrev pub NodeDone : Work → ℕ → ℕ → List State → List State → Type 0
NodeDone w j a T T' = NodeDoneAny listing w j a T T'
