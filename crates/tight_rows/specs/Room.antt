-- The lent room: words at places. A table stands in a slot; behind the slots stands the plan, with a word for each mask, and then some rows. At most K contents, W
-- cells to a row, T tracked blocks.
use Rattle.std.specs.Prelude.{◌≡◌, ℕ, ◌+◌, ◌*◌, ◌^◌, ◌<◌, List, length, slice_index}

-- words at places
abbrev pub Words : Type 0
Words = ℕ → ℕ

-- the word at each place of a list; 0 past its end
abbrev pub words_of : List ℕ → Words
words_of ws i = slice_index ws i

-- what a function leaves in the room that it is lent: as many words, and at each place what f makes of the words before
pub record Leaves (f : Words → Words) (entry exit : List ℕ) : Type 0 where
  pub long : length exit ≡ length entry
  pub word : (i : ℕ) → i < length entry → words_of exit i ≡ f (words_of entry) i

-- what a function does that asks nothing of its callers: where P holds Q does, and where P does not hold R does
pub record Where (P Q R : Type 0) : Type 0 where
  pub does : P → Q
  pub not : (P → ⊥) → R

-- ---- a slot, which starts at place a

-- how many contents
abbrev pub count_at : ℕ → ℕ
count_at a = a

-- the miss count of the first cells
abbrev pub base_at : ℕ → ℕ
base_at a = a + 1

-- how many cells of a row are in use
abbrev pub width_at : ℕ → ℕ
width_at a = a + 2

-- the lost units
abbrev pub lost_at : ℕ → ℕ
lost_at a = a + 3

-- the mask of contents k
abbrev pub mask_at : ℕ → ℕ → ℕ
mask_at a k = a + 4 + k

-- the units of contents k, over its row
abbrev pub units_at : ℕ → ℕ → ℕ → ℕ
units_at K a k = a + 4 + K + k

-- the filled numbers of the cells j: the front word
abbrev pub front_at : ℕ → ℕ → ℕ → ℕ
front_at K a j = a + 4 + 2 * K + j

-- and the back word
abbrev pub back_at : ℕ → ℕ → ℕ → ℕ → ℕ
back_at K W a j = a + 4 + 2 * K + W + j

-- where the row of contents k starts
abbrev pub row_at : ℕ → ℕ → ℕ → ℕ → ℕ
row_at K W a k = a + 4 + 2 * K + 2 * W + k * W

-- cell j of it
abbrev pub cell_at : ℕ → ℕ → ℕ → ℕ → ℕ → ℕ
cell_at K W a k j = row_at K W a k + j

-- the words of a slot
abbrev pub slot_words : ℕ → ℕ → ℕ
slot_words K W = 4 + 2 * K + 2 * W + K * W

-- ---- the plan, which starts at place p

-- the units that go to mask C
abbrev pub sum_at : ℕ → ℕ → ℕ
sum_at p C = p + C

-- where the units of mask C go on to
abbrev pub goes_at : ℕ → ℕ → ℕ → ℕ
goes_at T p C = p + 2 ^ T + C

-- the number of the row of mask C
abbrev pub number_at : ℕ → ℕ → ℕ → ℕ
number_at T p C = p + 2 * 2 ^ T + C

-- word j of row r of W + 1 words, behind the three arrays
abbrev pub spare_at : ℕ → ℕ → ℕ → ℕ → ℕ → ℕ
spare_at W T p r j = p + 3 * 2 ^ T + r * (W + 1) + j

-- the words of a plan with n such rows
abbrev pub plan_words : ℕ → ℕ → ℕ → ℕ
plan_words W T n = 3 * 2 ^ T + n * (W + 1)
