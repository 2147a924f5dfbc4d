-- States put into the first n states of a list T, which are r states then: what is said of any kind of state, for this table's.
use Rattle.std.specs.Prelude.{List, ℕ}
use Rattle.rules.specs.declared.BestState.{BestState}
use Rattle.rules.specs.Best.{listing}
pub use Rattle.tables.specs.Placing.{is_after, is_same}
use Rattle.tables.specs.Placing.{place_of as place_any, Inserted as InsertedAny, Added as AddedAny}

-- how many of the first states stand before s
abbrev pub place_of : BestState → List BestState → ℕ
place_of s T = place_any listing s T

-- s is inserted
abbrev pub Inserted : BestState → ℕ → ℕ → List BestState → List BestState → Type 0
Inserted s n r T T' = InsertedAny listing s n r T T'

-- the states S are added; those of 0 units vanish
abbrev pub Added : List BestState → ℕ → ℕ → List BestState → List BestState → Type 0
Added S n r T T' = AddedAny listing S n r T T'
