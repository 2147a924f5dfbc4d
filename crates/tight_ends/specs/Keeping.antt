-- The rows of a slot when they are gathered: row after row goes up to where the last one that keeps units ends. At most K contents, W cells to a row, the slot at place a; the
-- first bot cells of a row rise, and `wide` cells are left.
use Rattle.std.specs.Prelude.{◌≡◌, ◌⊎◌, ◌≢◌, List, ℕ, ◌+◌, ◌*◌, ◌≤◌, ◌<◌, length}
use Rattle.basics.proofs.Sums.{sum_to}
use Rattle.rules.specs.Units.{whole}
use Rattle.tight_rows.specs.Room.{Words, words_of, mask_at, units_at, cell_at, row_at, slot_words}
use Rattle.tight_ends.specs.Settling.{gathered, gathered_row}

-- row k of a slot
abbrev pub row_in : ℕ → ℕ → ℕ → Words → ℕ → ℕ → ℕ
row_in K W a w k j = w (cell_at K W a k j)

-- the units of row k that stay
abbrev pub staying_in : ℕ → ℕ → ℕ → ℕ → ℕ → Words → ℕ → ℕ
staying_in K W a bot wide w k = sum_to wide (gathered bot (row_in K W a w k))

-- row k may become row `to`: the slot is there, and its row k has no more than WHOLE units
pub record Keeping (K W a bot wide k to : ℕ) (ws : List ℕ) : Type 0 where
  pub row : k < K
  pub up : to ≤ k
  pub some : 1 ≤ wide
  pub within : bot + wide ≤ W
  pub inside : a + slot_words K W ≤ length ws
  pub most : sum_to W (row_in K W a (words_of ws) k) ≤ whole

-- a place that is neither the mask nor the units nor a cell of row k
pub record Beside (K W a k i : ℕ) : Type 0 where
  pub mask : i ≢ mask_at a k
  pub units : i ≢ units_at K a k
  pub cells : (i < row_at K W a k) ⊎ (row_at K W a k + W ≤ i)

-- row k has become row `to`, and there are r rows then; where no units stay, `to`
pub record RowKept (K W a bot wide k to : ℕ) (xs ys : List ℕ) (r : ℕ) : Type 0 where
  pub long : length ys ≡ length xs
  pub cells : (j : ℕ) → j < W → words_of ys (cell_at K W a to j) ≡ gathered_row bot wide (row_in K W a (words_of xs) k) j
  pub none : staying_in K W a bot wide (words_of xs) k ≡ 0
      → (r ≡ to) × (words_of ys (mask_at a to) ≡ words_of xs (mask_at a to)) × (words_of ys (units_at K a to) ≡ words_of xs (units_at K a to))
  pub some : 1 ≤ staying_in K W a bot wide (words_of xs) k
      → (r ≡ to + 1) × (words_of ys (mask_at a to) ≡ words_of xs (mask_at a k)) × (words_of ys (units_at K a to) ≡ staying_in K W a bot wide (words_of xs) k)
  pub beside : (i : ℕ) → i < length xs → Beside K W a to i → words_of ys i ≡ words_of xs i

-- all n rows may: each has no more than WHOLE units
pub record KeepingAll (K W a bot wide n : ℕ) (ws : List ℕ) : Type 0 where
  pub few : n ≤ K
  pub some : 1 ≤ wide
  pub within : bot + wide ≤ W
  pub inside : a + slot_words K W ≤ length ws
  pub most : (k : ℕ) → k < n → sum_to W (row_in K W a (words_of ws) k) ≤ whole

-- of the first k rows those that keep units have become the first o, in order: row i comes from row `from` i. What is beside the slot's masks, units and cells is as it was,
-- and so are the rows from row k on
pub record KeptTo (K W a bot wide k o : ℕ) (xs ys : List ℕ) : Type 0 where
  pub few : o ≤ k
  pub long : length ys ≡ length xs
  pub from : ℕ → ℕ
  pub before : (i : ℕ) → i < o → from i < k
  pub rises : (i l : ℕ) → i < l → l < o → from i < from l
  pub some : (i : ℕ) → i < o → 1 ≤ staying_in K W a bot wide (words_of xs) (from i)
  pub mask : (i : ℕ) → i < o → words_of ys (mask_at a i) ≡ words_of xs (mask_at a (from i))
  pub units : (i : ℕ) → i < o → words_of ys (units_at K a i) ≡ staying_in K W a bot wide (words_of xs) (from i)
  pub cells : (i j : ℕ) → i < o → j < W → words_of ys (cell_at K W a i j) ≡ gathered_row bot wide (row_in K W a (words_of xs) (from i)) j
  pub all : (l : ℕ) → l < k → 1 ≤ staying_in K W a bot wide (words_of xs) l → (i : ℕ) × (i < o) × (from i ≡ l)
  pub ahead_mask : (l : ℕ) → k ≤ l → l < K → words_of ys (mask_at a l) ≡ words_of xs (mask_at a l)
  pub ahead_cells : (l j : ℕ) → k ≤ l → l < K → j < W → words_of ys (cell_at K W a l j) ≡ words_of xs (cell_at K W a l j)
  pub rest : (i : ℕ) → i < length xs → (i < a + 4) ⊎ ((a + 4 + 2 * K ≤ i) × (i < a + 4 + 2 * K + 2 * W)) ⊎ (a + slot_words K W ≤ i) → words_of ys i ≡ words_of xs i
