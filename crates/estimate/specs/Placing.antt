-- States put into the first n states of a list T, which are r states then: what is said of any kind of state, for this table's.
use Rattle.std.specs.Prelude.{List, ℕ}
use Rattle.rules.specs.declared.State.{State}
use Rattle.rules.specs.Table.{listing}
pub use Rattle.tables.specs.Placing.{is_after, is_same}
use Rattle.tables.specs.Placing.{place_of as place_any, Passed as PassedAny, Inserted as InsertedAny, Added as AddedAny}

-- how many of the first states stand before s
abbrev pub place_of : State → List State → ℕ
place_of s T = place_any listing s T

-- s stands after the first i states
abbrev pub Passed : State → List State → ℕ → Type 0
Passed s T i = PassedAny listing s T i

-- s is inserted
abbrev pub Inserted : State → ℕ → ℕ → List State → List State → Type 0
Inserted s n r T T' = InsertedAny listing s n r T T'

-- the states S are added; those of 0 units vanish
abbrev pub Added : List State → ℕ → ℕ → List State → List State → Type 0
Added S n r T T' = AddedAny listing S n r T T'
