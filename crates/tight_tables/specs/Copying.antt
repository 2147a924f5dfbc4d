-- A table copied from slot to slot with only those blocks that are live: contents that are then the same have their rows added together.
use Rattle.std.specs.Prelude.{◌≡◌, ◌⊎◌, List, ℕ, ◌+◌, ◌^◌, ◌≤◌, ◌<◌, eqb, ltb, length}
use Rattle.basics.proofs.Sums.{sum_to}
use Rattle.rules.specs.Contents.{shared}
use Rattle.rules.specs.Table.{total}
use Rattle.rules.specs.Units.{whole}
use Rattle.tight_rows.specs.declared.Opening.{Opening}
use Rattle.tight_rows.specs.Room.{Words, words_of, count_at, width_at, mask_at, row_at, cell_at, slot_words}
use Rattle.tight_rows.specs.Rows.{Apart, if, comes_to}
use Rattle.tight_rows.specs.Grid.{Grid, grid_of, table_of, Neat}
use Rattle.tight_rows.specs.Numbers.{Placed}

-- the units of the first n contents that come to mask D, when only what is in L counts
abbrev pub live_units : ℕ → Grid → ℕ → ℕ → ℕ
live_units L g n D = sum_to n (λ k. if (comes_to L D (g.mask k)) (g.units k))

-- and their units in cell j
abbrev pub live_cell : ℕ → Grid → ℕ → ℕ → ℕ → ℕ
live_cell L g n D j = sum_to n (λ k. if (comes_to L D (g.mask k)) (g.cell k j))

-- h has the contents of g as far as they are in L, with the same miss counts, filled numbers and lost units
pub record Narrowed (L : ℕ) (g h : Grid) : Type 0 where
  pub base : h.base ≡ g.base
  pub width : h.width ≡ g.width
  pub lost : h.lost ≡ g.lost
  pub filled : (j : ℕ) → j < g.width → h.filled j ≡ g.filled j
  pub rises : (i k : ℕ) → i < k → k < h.count → h.mask i < h.mask k
  pub there : (k : ℕ) → k < g.count → (i : ℕ) × (i < h.count) × (h.mask i ≡ shared (g.mask k) L)
  pub cells : (i j : ℕ) → i < h.count → j < g.width → h.cell i j ≡ live_cell L g g.count (h.mask i) j

-- ---- what the copy needs

-- word j of those at place `to` with word j of those at place `from`
abbrev pub words_more : ℕ → ℕ → Words → ℕ → ℕ
words_more from to w j = w (to + j) + w (from + j)

-- n words at place `from` can be added to those at place `to`: all are there, none in common, and the sums are words
pub record WordsAddable (from to n : ℕ) (ws : List ℕ) : Type 0 where
  pub inside : from + n ≤ length ws
  pub room : to + n ≤ length ws
  pub apart : Apart n to from
  pub fits : (j : ℕ) → j < n → words_more from to (words_of ws) j < 2 ^ 64

-- the slot at place a is neat and has no more than WHOLE units; it stands before the plan, beside the slot that is opened; the masks have room for what is in L
pub record Copyable (o : Opening) (a L : ℕ) (ws : List ℕ) : Type 0 where
  pub placed : Placed o ws
  pub before : a + slot_words o.contents o.cells ≤ o.plan
  pub apart : Apart (slot_words o.contents o.cells) o.slot a
  pub low : L < o.masks
  pub neat : Neat o.contents o.cells (grid_of o.contents o.cells a (words_of ws))
  pub full : total (table_of (grid_of o.contents o.cells a (words_of ws))) ≤ whole

-- the units of all masks of L are 0 as yet
abbrev pub NoSums : Opening → ℕ → List ℕ → Type 0
NoSums o L ws = (D : ℕ) → D ≤ L → words_of ws (o.plan + D) ≡ 0

-- ---- rows added to those of what is live of their contents

-- the number of the row that contents k of the slot at place a come to
abbrev pub row_for : Opening → ℕ → ℕ → Words → ℕ → ℕ
row_for o a L w k = w (o.numbers + shared (w (mask_at a k)) L)

-- what the first n contents bring to cell j of row i
abbrev pub brought_to : Opening → ℕ → ℕ → Words → ℕ → ℕ → ℕ → ℕ
brought_to o a L w n i j = sum_to n (λ k. if (eqb (row_for o a L w k) i) (if (ltb j (w (width_at a))) (w (cell_at o.contents o.cells a k j))))

-- each contents of the slot at place a has a row to come to, and all together no more than WHOLE units in a cell; the rows are 0 as yet
pub record Bringing (o : Opening) (a L : ℕ) (ws : List ℕ) : Type 0 where
  pub ok : Copyable o a L ws
  pub row : (k : ℕ) → k < words_of ws (count_at a) → row_for o a L (words_of ws) k < o.contents
  pub zeros : (i j : ℕ) → i < o.contents → j < o.cells → (k : ℕ) → k < words_of ws (count_at a) → row_for o a L (words_of ws) k ≡ i → words_of ws (cell_at o.contents o.cells o.slot i j) ≡ 0

-- the first n contents have brought their units, and nothing else is changed
pub record Brought (o : Opening) (a L n : ℕ) (xs ys : List ℕ) : Type 0 where
  pub long : length ys ≡ length xs
  pub cells : (i j : ℕ) → i < o.contents → j < o.cells
      → words_of ys (cell_at o.contents o.cells o.slot i j) ≡ words_of xs (cell_at o.contents o.cells o.slot i j) + brought_to o a L (words_of xs) n i j
  pub beside : (p : ℕ) → p < length xs → (p < row_at o.contents o.cells o.slot 0) ⊎ (o.slot + slot_words o.contents o.cells ≤ p) → words_of ys p ≡ words_of xs p
