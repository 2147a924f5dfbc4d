-- The first table in a slot.
use Rattle.std.specs.Prelude.{◌≡◌, ◌⊎◌, List, ℕ, ◌+◌, ◌≤◌, ◌<◌, length}
use Rattle.rules.specs.declared.Filled.{Filled}
use Rattle.tight_rules.specs.Rows.{begun}
use Rattle.tight_rows.specs.Room.{words_of, width_at, slot_words}
use Rattle.tight_rows.specs.Grid.{grid_of, rows_of, Neat}

-- the slot at place a is neat, has one cell in use and means the first table, where F may be filled; what is beside it is as it was
pub record Begun (K W a : ℕ) (F : Filled) (xs ys : List ℕ) : Type 0 where
  pub long : length ys ≡ length xs
  pub neat : Neat K W (grid_of K W a (words_of ys))
  pub width : words_of ys (width_at a) ≡ 1
  pub means : rows_of 0 (grid_of K W a (words_of ys)) ≡ begun F
  pub beside : (p : ℕ) → p < length xs → (p < a) ⊎ (a + slot_words K W ≤ p) → words_of ys p ≡ words_of xs p
