-- The rows of all contents, split among the ways where a miss can lose a block.
use Rattle.std.specs.Prelude.{◌≡◌, ◌⊎◌, Bool, false, cond, not, List, ℕ, ◌+◌, ◌*◌, ◌^◌, ◌≤◌, ◌<◌, eqb, length}
use Rattle.basics.proofs.Sums.{sum_to}
use Rattle.rules.specs.declared.Target.{Target}
use Rattle.rules.specs.Contents.{hits}
use Rattle.tight.specs.declared.Shares.{Shares}
use Rattle.tight_rows.specs.Room.{Words, words_of}
use Rattle.tight_rows.specs.Rows.{part_at, left_at, split_to, if}
use Rattle.tight.specs.Access.{risk}

-- whether contents C miss, and can lose a block
abbrev pub can_lose : Target → ℕ → Bool
can_lose x C = cond (hits x C) false (not (eqb (risk x C) 0))

-- the row at `row`, whose mask stands at place m, is split if its contents can lose a block
abbrev pub split_if : ℕ → Target → ℕ → ℕ → ℕ → ℕ → ℕ → Words → Words
split_if N x m row select rest n w i = cond (can_lose x (w m)) (split_to N row select rest n w i) (w i)

-- the masks, the rows, the row that chooses and the one for what is left over stand one behind the other, and the sums are words
pub record Shareable (N : ℕ) (s : Shares) (ws : List ℕ) : Type 0 where
  pub ways : 1 ≤ N
  pub wide : s.width ≤ s.length
  pub masks : s.masks + s.count ≤ s.rows
  pub rows : s.rows + s.count * s.length ≤ s.select
  pub chosen : s.select + s.width ≤ s.rest
  pub room : s.rest + s.width ≤ length ws
  pub fits : (j : ℕ) → j < s.width → words_of ws (s.rest + j) + s.count * N < 2 ^ 64

-- where cell j of row k stands
abbrev pub share_at : Shares → ℕ → ℕ → ℕ
share_at s k j = s.rows + k * s.length + j

-- whether row k is split
abbrev pub is_split : Target → Shares → Words → ℕ → Bool
is_split x s w k = can_lose x (w (s.masks + k))

-- what is left over of cell j of row k
abbrev pub left_of : ℕ → Target → Shares → Words → ℕ → ℕ → ℕ
left_of N x s w j k = if (is_split x s w k) (left_at N (share_at s k j) (s.select + j) w)

-- the first m rows are split where their contents can lose a block, what is left over of each column is added to its word at `rest`, and nothing else is changed
pub record Shared (N : ℕ) (x : Target) (s : Shares) (m : ℕ) (xs ys : List ℕ) : Type 0 where
  pub long : length ys ≡ length xs
  pub cells : (k j : ℕ) → k < m → j < s.width
      → words_of ys (share_at s k j) ≡ cond (is_split x s (words_of xs) k) (part_at N (share_at s k j) (s.select + j) (words_of xs)) (words_of xs (share_at s k j))
  pub left : (j : ℕ) → j < s.width → words_of ys (s.rest + j) ≡ words_of xs (s.rest + j) + sum_to m (left_of N x s (words_of xs) j)
  pub beyond : (k j : ℕ) → k < m → s.width ≤ j → j < s.length → words_of ys (share_at s k j) ≡ words_of xs (share_at s k j)
  pub beside : (i : ℕ) → i < length xs → (i < s.rows) ⊎ (s.rows + m * s.length ≤ i) → (i < s.rest) ⊎ (s.rest + s.width ≤ i) → words_of ys i ≡ words_of xs i
