-- What the words of a slot mean: contents with rows of cells, and the rows (tight_rules) that they stand for.
use Rattle.std.specs.Prelude.{◌≡◌, ℕ, zero, suc, ◌+◌, ◌<◌, ◌≤◌, List, [], ◌∷◌, ◌++◌}
use Rattle.basics.proofs.Sums.{sum_to}
use Rattle.rules.specs.declared.Filled.{Filled}
use Rattle.rules.specs.declared.State.{State}
use Rattle.rules.specs.Table.{state, present}
use Rattle.tight_rules.specs.Rows.{Rows}
use Rattle.tight_rows.specs.Room.{Words, count_at, base_at, width_at, lost_at, mask_at, units_at, front_at, back_at, cell_at}

-- so many contents, the miss count of the first cells, how many cells are in use, the lost units; the mask and the units of contents k; the filled numbers of the cells
-- j; and the units of contents k with base + j misses
pub record Grid : Type 0 where
  pub count : ℕ
  pub base : ℕ
  pub width : ℕ
  pub lost : ℕ
  pub mask : ℕ → ℕ
  pub units : ℕ → ℕ
  pub filled : ℕ → Filled
  pub cell : ℕ → ℕ → ℕ

-- the filled numbers whose words stand at two places
abbrev pub filled_words : Words → ℕ → ℕ → Filled
filled_words w front back = record { front = w front; back = w back }

-- the slot at place a
abbrev pub grid_of : ℕ → ℕ → ℕ → Words → Grid
grid_of K W a w =
    record {
      count = w (count_at a);
      base = w (base_at a);
      width = w (width_at a);
      lost = w (lost_at a);
      mask = λ k. w (mask_at a k);
      units = λ k. w (units_at K a k);
      filled = λ j. record { front = w (front_at K a j); back = w (back_at K W a j) };
      cell = λ k j. w (cell_at K W a k j);
    }

-- the state of a cell
abbrev pub state_of : Grid → ℕ → ℕ → State
state_of g k j = state (g.mask k) (g.base + j) (g.filled j) (g.cell k j)

-- the states of the first n cells of contents k; cells of 0 units are none
unfoldable pub row_to : Grid → ℕ → ℕ → List State
row_to g k zero = []
row_to g k (suc n) = row_to g k n ++ present (state_of g k n ∷ [])

-- the states of the first n contents
unfoldable pub table_to : Grid → ℕ → List State
table_to g zero = []
table_to g (suc n) = table_to g n ++ row_to g n g.width

-- all states, in order
unfoldable pub table_of : Grid → List State
table_of g = table_to g g.count

-- the rows, with a set aside
abbrev pub rows_of : ℕ → Grid → Rows
rows_of a g = record { kept = record { table = table_of g; aside = a }; lost = g.lost }

-- what every table of the work is: at most K contents, strictly rising, each with at least 1 unit, at most W cells in use, none beyond
pub record Neat (K W : ℕ) (g : Grid) : Type 0 where
  pub few : g.count ≤ K
  pub narrow : g.width ≤ W
  pub rises : (i k : ℕ) → i < k → k < g.count → g.mask i < g.mask k
  pub summed : (k : ℕ) → k < g.count → g.units k ≡ sum_to g.width (g.cell k)
  pub some : (k : ℕ) → k < g.count → 1 ≤ g.units k
  pub beyond : (k j : ℕ) → k < g.count → g.width ≤ j → j < W → g.cell k j ≡ 0
