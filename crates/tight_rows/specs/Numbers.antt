-- A table is opened for what an access sends on: a row for each mask that has units, rising, all of it 0 as yet; and every mask has the number of a row.
use Rattle.std.specs.Prelude.{◌≡◌, ℕ, ◌+◌, ◌<◌, ◌≤◌, Bool, cond, ◌&&◌, ◌⊎◌, List, length, ◌==◌, nat_le, nat_lt, slice_set}
use Rattle.basics.proofs.Sums.{sum_to}
use Rattle.tight_rows.specs.declared.Opening.{Opening}
use Rattle.tight_rows.specs.Room.{Words, words_of, mask_at, units_at, cell_at, row_at, slot_words}

-- the units of mask C
abbrev pub sum_in : Opening → Words → ℕ → ℕ
sum_in o w C = w (o.plan + C)

-- where the units of mask C go on to
abbrev pub goes_in : Opening → Words → ℕ → ℕ
goes_in o w C = w (o.goes + C)

-- the number of the row of mask C
abbrev pub number_in : Opening → Words → ℕ → ℕ
number_in o w C = w (o.numbers + C)

-- 1 if there are units, otherwise 0
abbrev pub some : ℕ → ℕ
some u = cond (u == 0) 0 1

-- how many of the masks below m have units, where mask C has u C: the number of the row of mask m, if it has units
abbrev pub rank_of : (ℕ → ℕ) → ℕ → ℕ
rank_of u m = sum_to m (λ C. some (u C))

-- the slot, the units by mask, where they go on to, and the numbers stand one behind the other
pub record Placed (o : Opening) (ws : List ℕ) : Type 0 where
  pub slot : o.slot + slot_words o.contents o.cells ≤ o.plan
  pub sums : o.plan + o.masks ≤ o.goes
  pub goes : o.goes + o.masks ≤ o.numbers
  pub end : o.numbers + o.masks ≤ length ws

-- whether they do, in a room of `all` words
abbrev pub is_placed : Opening → ℕ → Bool
is_placed o all =
    nat_le (o.slot + slot_words o.contents o.cells) o.plan && nat_le (o.plan + o.masks) o.goes && nat_le (o.goes + o.masks) o.numbers && nat_le (o.numbers + o.masks) all

-- they do, and there are as many rows as masks with units
pub record Openable (o : Opening) (ws : List ℕ) : Type 0 where
  pub placed : Placed o ws
  pub few : rank_of (sum_in o (words_of ws)) o.masks ≤ o.contents

-- a row is opened for mask C of u units: row k
abbrev pub row_put : Opening → ℕ → ℕ → ℕ → List ℕ → List ℕ
row_put o C u k ws = slice_set (slice_set (slice_set ws (o.numbers + C) k) (mask_at o.slot k) C) (units_at o.contents o.slot k) u

-- the number of mask C, which has no units: that of where it goes on to, if this is a smaller mask
abbrev pub number_on : Opening → Words → ℕ → ℕ
number_on o w C = cond (nat_lt (goes_in o w C) C) (number_in o w (goes_in o w C)) 0

-- mask C has its number, and a row where it has units: row k; there are r rows then
pub record MaskOpened (o : Opening) (C k : ℕ) (xs ys : List ℕ) (r : ℕ) : Type 0 where
  pub none : sum_in o (words_of xs) C ≡ 0 → (r ≡ k) × (ys ≡ slice_set xs (o.numbers + C) (number_on o (words_of xs) C))
  pub some : 1 ≤ sum_in o (words_of xs) C → (r ≡ k + 1) × (ys ≡ row_put o C (sum_in o (words_of xs) C) k xs)

-- the masks below m have their numbers, and those of them with units have their rows, r in all: a mask with units its own, one without units that of where it goes on to, if this
-- is a smaller mask, otherwise 0
pub record Numbered (o : Opening) (m r : ℕ) (xs ys : List ℕ) : Type 0 where
  pub long : length ys ≡ length xs
  pub count : r ≡ rank_of (sum_in o (words_of xs)) m
  pub own : (C : ℕ) → C < m → 1 ≤ sum_in o (words_of xs) C → number_in o (words_of ys) C ≡ rank_of (sum_in o (words_of xs)) C
  pub on : (C : ℕ) → C < m → sum_in o (words_of xs) C ≡ 0 → goes_in o (words_of xs) C < C → number_in o (words_of ys) C ≡ number_in o (words_of ys) (goes_in o (words_of xs) C)
  pub nowhere : (C : ℕ) → C < m → sum_in o (words_of xs) C ≡ 0 → C ≤ goes_in o (words_of xs) C → number_in o (words_of ys) C ≡ 0
  pub mask : (C : ℕ) → C < m → 1 ≤ sum_in o (words_of xs) C → words_of ys (mask_at o.slot (rank_of (sum_in o (words_of xs)) C)) ≡ C
  pub units : (C : ℕ) → C < m → 1 ≤ sum_in o (words_of xs) C → words_of ys (units_at o.contents o.slot (rank_of (sum_in o (words_of xs)) C)) ≡ sum_in o (words_of xs) C

-- place i is beside the masks and the units of the first r rows, and the numbers of the masks below m
pub record Beside (o : Opening) (m r i : ℕ) : Type 0 where
  pub masks : (i < mask_at o.slot 0) ⊎ (mask_at o.slot r ≤ i)
  pub units : (i < units_at o.contents o.slot 0) ⊎ (units_at o.contents o.slot r ≤ i)
  pub numbers : (i < o.numbers) ⊎ (o.numbers + m ≤ i)

-- they have, and nothing else is changed
pub record NumberedTo (o : Opening) (m r : ℕ) (xs ys : List ℕ) : Type 0 where
  pub numbered : Numbered o m r xs ys
  pub beside : (i : ℕ) → i < length xs → Beside o m r i → words_of ys i ≡ words_of xs i

-- all masks have, the cells of the r rows are 0, and nothing else is changed
pub record Opened (o : Opening) (r : ℕ) (xs ys : List ℕ) : Type 0 where
  pub numbered : Numbered o o.masks r xs ys
  pub cells : (k j : ℕ) → k < r → j < o.cells → words_of ys (cell_at o.contents o.cells o.slot k j) ≡ 0
  pub beside : (i : ℕ) → i < length xs → Beside o o.masks r i → (i < row_at o.contents o.cells o.slot 0) ⊎ (row_at o.contents o.cells o.slot r ≤ i)
      → words_of ys i ≡ words_of xs i
