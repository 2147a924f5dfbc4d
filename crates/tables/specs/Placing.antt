-- States of any kind put into the first n states of a list T, which are r states then.
use Rattle.std.specs.Prelude.{◌≡◌, Bool, true, false, cond, List, [], ◌∷◌, ℕ, suc, ◌<◌, length, take}
use Rattle.rules.specs.Ordered.{Order, before, same, after, insert}
use Rattle.rules.specs.AnyTable.{Listing, plus, add, at}

-- the first of the two stands after the second
abbrev pub is_after : Order → Bool
is_after before = false
is_after same = false
is_after after = true

-- the two stand at the same place
abbrev pub is_same : Order → Bool
is_same before = false
is_same same = true
is_same after = false

module _ {A : Type 0} (l : Listing A) where
  -- how many of the first states stand before s
  unfoldable pub place_of : A → List A → ℕ
  place_of s [] = 0
  place_of s (t ∷ T) = cond (is_after (l.order s t)) (suc (place_of s T)) 0

  -- s stands after the first i states
  abbrev pub Passed : A → List A → ℕ → Type 0
  Passed s T i = (j : ℕ) → j < i → is_after (l.order s (at l T j)) ≡ true

  -- s is inserted
  pub record Inserted (s : A) (n r : ℕ) (T T' : List A) : Type 0 where
    pub count : r ≡ length (insert l.order (plus l) s (take n T))
    pub table : take r T' ≡ insert l.order (plus l) s (take n T)

  -- the states S are added; those of 0 units vanish
  pub record Added (S : List A) (n r : ℕ) (T T' : List A) : Type 0 where
    pub count : r ≡ length (add l S (take n T))
    pub table : take r T' ≡ add l S (take n T)
