-- Rows of words: what is added to them, and what is split.
use Rattle.std.specs.Prelude.{◌≡◌, ℕ, ◌+◌, ◌-◌, ◌*◌, ◌/◌, ◌%◌, ◌^◌, ◌<◌, ◌≤◌, Bool, cond, ◌&&◌, ◌⊎◌, List, length, ◌==◌, bit_and, nat_le, nat_lt, slice_set}
use Rattle.basics.proofs.Sums.{sum_to}
use Rattle.rules.specs.Contents.{shared}
use Rattle.tight_rows.specs.Room.{Words, words_of}

-- u units, if they are meant
abbrev pub if : Bool → ℕ → ℕ
if b u = cond b u 0

-- whether contents C come to D, when only what is live of them counts
abbrev pub comes_to : ℕ → ℕ → ℕ → Bool
comes_to L D C = shared C L == D

-- place i is one of the n from place a on
abbrev pub within : ℕ → ℕ → ℕ → Bool
within a n i = nat_le a i && nat_lt i (a + n)

-- r of the n words from place a on are in a room of `all` words: all n, or as many as there are
pub record There (a n all r : ℕ) : Type 0 where
  pub most : r ≤ n
  pub inside : r ≤ all - a
  pub full : r < n → r ≡ all - a

-- the n words from place a on are v of 0, 1, .., and the others stay
abbrev pub replaced : ℕ → ℕ → (ℕ → ℕ) → Words → Words
replaced a n v w i = cond (within a n i) (v (i - a)) (w i)

-- the n words from place a on have v of 0, 1, .. more, and the others stay
abbrev pub raised : ℕ → ℕ → (ℕ → ℕ) → Words → Words
raised a n v w = replaced a n (λ j. w (a + j) + v j) w

-- the word at place i has u more, modulo 2 ^ 64, and the others stay
pub record More (i u : ℕ) (xs ys : List ℕ) : Type 0 where
  pub word : ys ≡ slice_set xs i ((words_of xs i + u) % 2 ^ 64)

-- n words from place a on and n from place b on have none in common
abbrev pub Apart : ℕ → ℕ → ℕ → Type 0
Apart n a b = (a + n ≤ b) ⊎ (b + n ≤ a)

-- what the word at place s selects of the word at place a: all where it is all ones, nothing where it is 0
abbrev pub selected : Words → ℕ → ℕ → ℕ
selected w a s = bit_and (w a) (w s)

-- word j of the row at place `to`, with what is selected of the row at `from` as often as said
abbrev pub with_row : ℕ → ℕ → ℕ → ℕ → Words → ℕ → ℕ
with_row from select to times w j = w (to + j) + selected w (from + j) (select + j) * times

-- the n words of each row are there, those of the row that is added to are no others', and the sums are words
pub record Addable (from select to n times : ℕ) (ws : List ℕ) : Type 0 where
  pub inside : from + n ≤ length ws
  pub chosen : select + n ≤ length ws
  pub room : to + n ≤ length ws
  pub apart : Apart n to from
  pub beside : Apart n to select
  pub fits : (j : ℕ) → j < n → with_row from select to times (words_of ws) j < 2 ^ 64

-- what is selected of the first n words of the row at `from`, in all
abbrev pub row_sum : ℕ → ℕ → ℕ → Words → ℕ
row_sum from select n w = sum_to n (λ j. selected w (from + j) (select + j))

-- ---- splitting

-- what the word at `at` becomes: its N-th part, rounded down, where the word at `select` is not 0
abbrev pub part_at : ℕ → ℕ → ℕ → Words → ℕ
part_at N at select w = cond (w select == 0) (w at) (w at / N)

-- and what is left over of it
abbrev pub left_at : ℕ → ℕ → ℕ → Words → ℕ
left_at N at select w = cond (w select == 0) 0 (w at % N)

-- the word at `at` is split, and what is left over of it is added to the one at `rest`
abbrev pub split_at : ℕ → ℕ → ℕ → ℕ → Words → Words
split_at N at select rest w i = cond (i == at) (part_at N at select w) (cond (i == rest) (w rest + left_at N at select w) (w i))

-- so are the first n words of the row at `row`, each with its words of the rows at `select` and `rest`
abbrev pub split_to : ℕ → ℕ → ℕ → ℕ → ℕ → Words → Words
split_to N row select rest n w =
    replaced row n (λ j. part_at N (row + j) (select + j) w) (replaced rest n (λ j. w (rest + j) + left_at N (row + j) (select + j) w) w)

-- the n words of each row are there, no two rows have one in common, and the sums are words
pub record Splittable (N row select rest n : ℕ) (ws : List ℕ) : Type 0 where
  pub ways : 1 ≤ N
  pub inside : row + n ≤ length ws
  pub chosen : select + n ≤ length ws
  pub room : rest + n ≤ length ws
  pub apart : Apart n row rest
  pub beside : Apart n row select
  pub behind : Apart n rest select
  pub fits : (j : ℕ) → j < n → words_of ws (rest + j) + words_of ws (row + j) % N < 2 ^ 64
