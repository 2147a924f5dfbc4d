-- Rows of cells become heights, how many units lie at or above each cell, and heights become cells again.
use Rattle.std.specs.Prelude.{◌≡◌, ◌⊎◌, cond, List, ℕ, suc, ◌+◌, ◌-◌, ◌*◌, ◌^◌, ◌≤◌, ◌<◌, ltb, length}
use Rattle.basics.proofs.Sums.{sum_to}
use Rattle.tight_joins.specs.declared.Band.{Band}
use Rattle.tight_rows.specs.Room.{Words, words_of}

-- of the n words from place a on those from the j-th on, in all
abbrev pub height_at : ℕ → ℕ → Words → ℕ → ℕ
height_at a n w j = sum_to n (λ i. w (a + i)) - sum_to j (λ i. w (a + i))

-- heights, each of the cell that is `by` further on
abbrev pub piled : ℕ → ℕ → ℕ → Words → ℕ → ℕ
piled by n a w j = height_at a n w (j + by)

-- the height behind that of cell j; 0 behind the last
abbrev pub next_height : ℕ → ℕ → Words → ℕ → ℕ
next_height n a w j = cond (ltb (suc j) n) (w (a + suc j)) 0

-- what each height has more than the one behind it
abbrev pub stepped : ℕ → ℕ → Words → ℕ → ℕ
stepped n a w j = w (a + j) - next_height n a w j

-- where row k starts
abbrev pub row_start : Band → ℕ → ℕ
row_start b k = b.rows + k * b.length

-- the rows are there
pub record Banded (b : Band) (ws : List ℕ) : Type 0 where
  pub wide : b.width ≤ b.length
  pub inside : b.rows + b.count * b.length ≤ length ws

-- a place that is none of the first cells of the first m rows
abbrev pub OffRows : Band → ℕ → ℕ → Type 0
OffRows b m i = (k : ℕ) → k < m → (i < row_start b k) ⊎ (row_start b k + b.width ≤ i)

-- the cells of the first m rows are v of what they were, and nothing else is changed
pub record EachRow (b : Band) (v : ℕ → Words → ℕ → ℕ) (m : ℕ) (xs ys : List ℕ) : Type 0 where
  pub long : length ys ≡ length xs
  pub cells : (k j : ℕ) → k < m → j < b.width → words_of ys (row_start b k + j) ≡ v (row_start b k) (words_of xs) j
  pub rest : (i : ℕ) → i < length xs → OffRows b m i → words_of ys i ≡ words_of xs i

-- no row has more units than a word can say
abbrev pub Light : Band → List ℕ → Type 0
Light b ws = (k : ℕ) → k < b.count → sum_to b.width (λ i. words_of ws (row_start b k + i)) < 2 ^ 64
