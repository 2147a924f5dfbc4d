-- The working room, as states of any kind: 64 slots of 64 states, a node's table in each, and behind them, from place 4,096 on, the scratch.
use Rattle.std.specs.Prelude.{◌≡◌, cond, List, [], ◌∷◌, ◌++◌, ℕ, zero, suc, ◌*◌, eqb, length, take, drop}
use Rattle.rules.specs.AnyTable.{Listing, Work, Worked}

module _ {A : Type 0} where
  -- ---- the scratch

  -- the r states X stand in the scratch, and the slots are as they were
  pub record InScratch (X : List A) (r : ℕ) (T T' : List A) : Type 0 where
    pub count : r ≡ length X
    pub table : take r (drop 4096 T') ≡ X
    pub slots : take 4096 T' ≡ take 4096 T

  -- ---- a table at a place

  -- w in the first n states of T, with the count a: how many states it has, the states, the set-aside count
  pub record Stands (w : Work A) (n a : ℕ) (T : List A) : Type 0 where
    pub count : n ≡ length w.table
    pub table : take n T ≡ w.table
    pub aside : a ≡ w.aside

  -- w at place p, and what is before that place is as it was
  pub record InPlace (w : Work A) (p n a : ℕ) (T T' : List A) : Type 0 where
    pub stands : Stands w n a (drop p T')
    pub before : take p T' ≡ take p T

  -- ---- the slots

  -- slot j: 64 states
  abbrev pub slot_of : ℕ → List A → List A
  slot_of j T = take 64 (drop (j * 64) T)

module _ {A : Type 0} (l : Listing A) where
  -- how many states stand before the first of 0 units
  unfoldable pub filled : List A → ℕ
  filled [] = 0
  filled (s ∷ T) = cond (eqb (l.units s) 0) 0 (suc (filled T))

  -- the table in slot j: its states before the first of 0 units
  unfoldable pub table_in : ℕ → List A → List A
  table_in j T = take (filled (slot_of j T)) (slot_of j T)

  -- the tables in the first j slots
  unfoldable pub tables_in : ℕ → List A → List (List A)
  tables_in zero T = []
  tables_in (suc j) T = tables_in j T ++ (table_in j T ∷ [])

  -- the nodes before node j, with the set-aside count a
  abbrev pub worked_in : ℕ → ℕ → List A → Worked A
  worked_in j a T = record { tables = tables_in j T; aside = a }

  -- node j is worked to w: its table is in its slot, and the slots before it are as they were
  pub record NodeDone (w : Work A) (j a : ℕ) (T T' : List A) : Type 0 where
    pub table : table_in j T' ≡ w.table
    pub aside : a ≡ w.aside
    pub before : take (j * 64) T' ≡ take (j * 64) T
