-- The answer: a row of units, and cell m has those of the curve with m misses.
use Rattle.std.specs.Prelude.{◌≡◌, cond, List, ℕ, ◌+◌, ◌≤◌, ◌<◌, eqb, length}
use Rattle.basics.proofs.Sums.{sum_to}
use Rattle.rules.specs.Units.{whole}
use Rattle.rules.specs.Table.{total}
use Rattle.rules.specs.Questions.{counts_below}
use Rattle.tight_rules.specs.Asked.{Asked}
use Rattle.tight_rules.specs.Graph.{curve}
use Rattle.tight_rows.specs.Room.{words_of, base_at, width_at, lost_at, slot_words}
use Rattle.tight_rows.specs.Grid.{Grid, grid_of, table_of, Neat}

-- what the call gives in its result room: the units of the curve at each miss count, and 0 beyond
unfoldable pub answer_row : Asked → List ℕ
answer_row a = counts_below a.result_room (curve a)

-- the units with m misses of contents k
abbrev pub row_column : Grid → ℕ → ℕ → ℕ
row_column g k m = sum_to g.width (λ j. cond (eqb (g.base + j) m) (g.cell k j) 0)

-- and of the first n contents
abbrev pub column_to : Grid → ℕ → ℕ → ℕ
column_to g n m = sum_to n (λ k. row_column g k m)

-- the slot at place a is there and neat, a row of n cells has room for its miss counts, and it has no more than WHOLE units
pub record Answerable (K W a n : ℕ) (ws : List ℕ) : Type 0 where
  pub inside : a + slot_words K W ≤ length ws
  pub neat : Neat K W (grid_of K W a (words_of ws))
  pub room : words_of ws (base_at a) + words_of ws (width_at a) ≤ n
  pub full : total (table_of (grid_of K W a (words_of ws))) + words_of ws (lost_at a) ≤ whole

-- every cell is 0
abbrev pub Zeros : List ℕ → Type 0
Zeros rs = (m : ℕ) → m < length rs → words_of rs m ≡ 0
