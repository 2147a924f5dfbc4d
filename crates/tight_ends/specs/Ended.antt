-- The row ends of a slot, from first to last: what must be there, and what is then. At most K contents, W cells to a row, the slot at place a and the stage at place e.
use Rattle.std.specs.Prelude.{◌≡◌, ◌⊎◌, List, ℕ, suc, ◌+◌, ◌-◌, ◌*◌, ◌^◌, ◌≤◌, ◌<◌, length}
use Rattle.basics.proofs.Sums.{sum_to}
use Rattle.rules.specs.Units.{whole, more}
use Rattle.tight_rules.specs.Rows.{Rows}
use Rattle.tight_rules.specs.Ends.{ends}
use Rattle.tight_rules.specs.Run.{settled}
use Rattle.tight_rows.specs.Room.{words_of, count_at, base_at, width_at, lost_at, mask_at, slot_words}
use Rattle.tight_rows.specs.Grid.{grid_of, rows_of, Neat}
use Rattle.tight_ends.specs.Stage.{groups_of, Staged}
use Rattle.tight_ends.specs.Settling.{both, settled_filled, Kept}
use Rattle.tight_ends.specs.Keeping.{row_in}

-- the slot is there and behind it its stage; contents rise; no row, no stage and no lost units have more than WHOLE, and miss counts are words
pub record Endable (K W a e : ℕ) (ws : List ℕ) : Type 0 where
  pub behind : a + slot_words K W ≤ e
  pub inside : e + 6 * suc W ≤ length ws
  pub few : words_of ws (count_at a) ≤ K
  pub some : 1 ≤ words_of ws (width_at a)
  pub narrow : words_of ws (width_at a) ≤ W
  pub rises : (i k : ℕ) → i < k → k < words_of ws (count_at a) → words_of ws (mask_at a i) < words_of ws (mask_at a k)
  pub rows : (k : ℕ) → k < words_of ws (count_at a) → sum_to W (row_in K W a (words_of ws) k) ≤ whole
  pub columns : sum_to (words_of ws (width_at a)) (both (groups_of W e (words_of ws))) ≤ whole
  pub base : words_of ws (base_at a) + W < 2 ^ 64
  pub lost : words_of ws (lost_at a) ≤ whole

-- so many rows, the miss count of the first cells bot higher, so many cells to a row and `gone` more lost units: written, and nothing else
pub record HeaderPut (a rows bot wide gone : ℕ) (xs ys : List ℕ) : Type 0 where
  pub long : length ys ≡ length xs
  pub count : words_of ys (count_at a) ≡ rows
  pub base : words_of ys (base_at a) ≡ words_of xs (base_at a) + bot
  pub width : words_of ys (width_at a) ≡ wide
  pub lost : words_of ys (lost_at a) ≡ words_of xs (lost_at a) + gone
  pub rest : (p : ℕ) → p < length xs → (p < a) ⊎ (a + 4 ≤ p) → words_of ys p ≡ words_of xs p

-- the slot has the cells from bot to top, with the first risen and with the settled filled numbers, and `gone` more lost units; what is beside it is as it was
pub record SlotEnded (K W a e bot top gone : ℕ) (xs ys : List ℕ) : Type 0 where
  pub long : length ys ≡ length xs
  pub kept : Kept (grid_of K W a (words_of xs)) (grid_of K W a (words_of ys)) bot
  pub neat : Neat K W (grid_of K W a (words_of ys))
  pub width : words_of ys (width_at a) ≡ top - bot
  pub lost : words_of ys (lost_at a) ≡ words_of xs (lost_at a) + gone
  pub filled : (i : ℕ) → i < top - bot → (grid_of K W a (words_of ys)).filled i ≡ settled_filled (groups_of W e (words_of xs)) bot i
  pub beside : (p : ℕ) → p < length xs → (p < a) ⊎ (a + slot_words K W ≤ p) → words_of ys p ≡ words_of xs p

-- the slot is neat and leaves room for a miss more; where slot and stage meant rows, it means those after the row ends, with settled filled numbers, u units more set aside;
-- what is beside it is as it was
pub record RowsEnded (K W a e u : ℕ) (xs ys : List ℕ) : Type 0 where
  pub long : length ys ≡ length xs
  pub most : u ≤ 2 * whole
  pub room : 2 ≤ W → words_of ys (width_at a) < W
  pub neat : Neat K W (grid_of K W a (words_of ys))
  pub means : (r : Rows) → Staged K W (grid_of K W a (words_of xs)) (groups_of W e (words_of xs)) r → settled (ends W r) ≡ rows_of (more r.kept.aside u) (grid_of K W a (words_of ys))
  pub beside : (p : ℕ) → p < length xs → (p < a) ⊎ (a + slot_words K W ≤ p) → words_of ys p ≡ words_of xs p
