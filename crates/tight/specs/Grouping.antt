-- The stage of an access: of each column the units that hit, and those that miss, one cell further on; and the filled numbers of both. W cells to a row, the stage at place e.
use Rattle.std.specs.Prelude.{◌≡◌, ◌⊎◌, not, List, ℕ, suc, ◌+◌, ◌*◌, ◌^◌, ◌≤◌, ◌<◌, length, set}
use Rattle.basics.proofs.Sums.{sum_to}
use Rattle.rules.specs.declared.Filled.{Filled}
use Rattle.rules.specs.declared.Target.{Target}
use Rattle.rules.specs.Contents.{hits}
use Rattle.rules.specs.Filling.{fill_one}
use Rattle.tight.specs.declared.Sender.{Sender}
use Rattle.tight_rows.specs.Room.{Words, words_of, count_at, base_at, width_at, lost_at}
use Rattle.tight_rows.specs.Rows.{if}
use Rattle.tight.specs.Selecting.{ones}
use Rattle.tight.specs.Sending.{start_at, mask_in}
use Rattle.tight_rows.specs.Grid.{filled_words}
use Rattle.tight_ends.specs.Stage.{stage_at}

-- ---- units

-- where those that miss are added: in the second row, one cell further on
abbrev pub missed_at : ℕ → ℕ → ℕ
missed_at W e = stage_at W e 1 1

-- of cell j of row k the units that hit
abbrev pub hit_of : Target → Sender → Words → ℕ → ℕ → ℕ
hit_of x s w j k = if (hits x (mask_in s w k)) (w (start_at s k + j))

-- and those that miss
abbrev pub miss_of : Target → Sender → Words → ℕ → ℕ → ℕ
miss_of x s w j k = if (not (hits x (mask_in s w k))) (w (start_at s k + j))

-- the units of column j, in all
abbrev pub column_of : Sender → Words → ℕ → ℕ
column_of s w j = sum_to s.count (λ k. w (start_at s k + j))

-- the rows stand before the stage, and behind its first two rows the one that chooses every cell
pub record Counting (W e : ℕ) (s : Sender) (ws : List ℕ) : Type 0 where
  pub wide : s.width ≤ s.length
  pub narrow : s.width ≤ W
  pub masks : s.masks + s.count ≤ e
  pub rows : s.rows + s.count * s.length ≤ e
  pub behind : e + 2 * suc W ≤ s.all
  pub all_end : s.all + s.width ≤ length ws
  pub all : (j : ℕ) → j < s.width → words_of ws (s.all + j) ≡ ones

-- u units can be added to column j
abbrev pub ColumnFits : ℕ → ℕ → ℕ → ℕ → List ℕ → Type 0
ColumnFits W e j u ws = (words_of ws (e + j) + u < 2 ^ 64) × (words_of ws (missed_at W e + j) + u < 2 ^ 64)

-- place i is none of those to which the units of n columns are added
pub record Aside (W e n i : ℕ) : Type 0 where
  pub hit : (i < e) ⊎ (e + n ≤ i)
  pub missed : (i < missed_at W e) ⊎ (missed_at W e + n ≤ i)

-- row k has been added, to those that hit or to those that miss
pub record RowCounted (W e : ℕ) (x : Target) (s : Sender) (k : ℕ) (xs ys : List ℕ) : Type 0 where
  pub long : length ys ≡ length xs
  pub hit : (j : ℕ) → j < s.width → words_of ys (e + j) ≡ words_of xs (e + j) + hit_of x s (words_of xs) j k
  pub missed : (j : ℕ) → j < s.width → words_of ys (missed_at W e + j) ≡ words_of xs (missed_at W e + j) + miss_of x s (words_of xs) j k
  pub beside : (i : ℕ) → i < length xs → Aside W e s.width i → words_of ys i ≡ words_of xs i

-- the first m rows have
pub record CountedTo (W e : ℕ) (x : Target) (s : Sender) (m : ℕ) (xs ys : List ℕ) : Type 0 where
  pub long : length ys ≡ length xs
  pub hit : (j : ℕ) → j < s.width → words_of ys (e + j) ≡ words_of xs (e + j) + sum_to m (hit_of x s (words_of xs) j)
  pub missed : (j : ℕ) → j < s.width → words_of ys (missed_at W e + j) ≡ words_of xs (missed_at W e + j) + sum_to m (miss_of x s (words_of xs) j)
  pub beside : (i : ℕ) → i < length xs → Aside W e s.width i → words_of ys i ≡ words_of xs i

-- the first two rows of the stage have the units of all rows, and 0 where there are none; nothing else is changed
pub record UnitsStaged (W e : ℕ) (x : Target) (s : Sender) (xs ys : List ℕ) : Type 0 where
  pub long : length ys ≡ length xs
  pub hit : (j : ℕ) → j < s.width → words_of ys (stage_at W e 0 j) ≡ sum_to s.count (hit_of x s (words_of xs) j)
  pub hit_end : (j : ℕ) → s.width ≤ j → j ≤ W → words_of ys (stage_at W e 0 j) ≡ 0
  pub missed : (j : ℕ) → j < s.width → words_of ys (stage_at W e 1 (suc j)) ≡ sum_to s.count (miss_of x s (words_of xs) j)
  pub missed_start : words_of ys (stage_at W e 1 0) ≡ 0
  pub beside : (i : ℕ) → i < length xs → (i < e) ⊎ (e + 2 * suc W ≤ i) → words_of ys i ≡ words_of xs i

-- ---- filled numbers

-- those of a column that hit, F, and those of the next that missed, G: p is the column's word in the first row, and a row has n words
abbrev pub group_put : ℕ → ℕ → Filled → Filled → List ℕ → List ℕ
group_put p n F G ws =
    set (set (set (set ws (p + 2 * n) F.front) (p + 3 * n) F.back) (p + 4 * n + 1) G.front) (p + 5 * n + 1) G.back

-- the filled numbers of n cells stand before the stage
pub record Grouping (W e fronts backs n : ℕ) (ws : List ℕ) : Type 0 where
  pub narrow : n ≤ W
  pub front : fronts + n ≤ e
  pub back : backs + n ≤ e
  pub inside : e + 6 * suc W ≤ length ws

-- of the first n cells: those that hit have the cell's numbers, and those that missed one way more of the accessed set; nothing before these rows of the stage or behind them is
-- changed
pub record Grouped (N W e : ℕ) (x : Target) (fronts backs n : ℕ) (xs ys : List ℕ) : Type 0 where
  pub long : length ys ≡ length xs
  pub hit : (j : ℕ) → j < n → filled_words (words_of ys) (stage_at W e 2 j) (stage_at W e 3 j) ≡ filled_words (words_of xs) (fronts + j) (backs + j)
  pub missed : (j : ℕ) → j < n → filled_words (words_of ys) (stage_at W e 4 (suc j)) (stage_at W e 5 (suc j)) ≡ fill_one N x.set (filled_words (words_of xs) (fronts + j) (backs + j))
  pub beside : (i : ℕ) → i < length xs → (i < stage_at W e 2 0) ⊎ (e + 6 * suc W ≤ i) → words_of ys i ≡ words_of xs i

-- ---- the header

-- the slot at b has so many rows, and of the slot at a the base, one cell more to a row and the lost units; nothing else is changed
pub record HeaderSent (a b rows : ℕ) (xs ys : List ℕ) : Type 0 where
  pub long : length ys ≡ length xs
  pub count : words_of ys (count_at b) ≡ rows
  pub base : words_of ys (base_at b) ≡ words_of xs (base_at a)
  pub width : words_of ys (width_at b) ≡ suc (words_of xs (width_at a))
  pub lost : words_of ys (lost_at b) ≡ words_of xs (lost_at a)
  pub rest : (p : ℕ) → p < length xs → (p < b) ⊎ (b + 4 ≤ p) → words_of ys p ≡ words_of xs p
