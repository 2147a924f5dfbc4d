-- What the pairs of two tables' rows come to: units by mask, and rows. A pair gives the blocks that its rows share; of its units as many lie at or above a cell as of the row that
-- has more left there, its units at most.
use Rattle.std.specs.Prelude.{◌≡◌, ◌⊎◌, ◌≢◌, List, ℕ, ◌+◌, ◌-◌, ◌*◌, ◌^◌, ◌≤◌, ◌<◌, min, max, eqb, length, set}
use Rattle.basics.proofs.Sums.{sum_to}
use Rattle.rules.specs.Contents.{shared}
use Rattle.tight_pairs.specs.declared.Sides.{Sides}
use Rattle.tight_joins.specs.declared.Meeting.{Meeting}
use Rattle.tight_rows.specs.Room.{Words, words_of}
use Rattle.tight_rows.specs.Rows.{if}
use Rattle.tight_pairs.specs.Matching.{pair_at, Placed}
use Rattle.tight_joins.specs.Piling.{row_start, OffRows}

-- a place is none of the n from place a on
abbrev pub Off : ℕ → ℕ → ℕ → Type 0
Off a n q = (q < a) ⊎ (a + n ≤ q)

-- the row of the left table that pair k has
abbrev pub left_row : Sides → Words → ℕ → ℕ
left_row p w k = (pair_at p.pairs w k).left

-- the row of the right table
abbrev pub right_row : Sides → Words → ℕ → ℕ
right_row p w k = (pair_at p.pairs w k).right

-- and its units
abbrev pub units_in : Sides → Words → ℕ → ℕ
units_in p w k = (pair_at p.pairs w k).units

-- the blocks that its rows share
abbrev pub meets : Sides → Words → ℕ → ℕ
meets p w k = shared (w (p.left.masks + left_row p w k)) (w (p.right.masks + right_row p w k))

-- n pairs are there, each of two rows
pub record PairsThere (p : Sides) (n : ℕ) (ws : List ℕ) : Type 0 where
  pub placed : Placed p ws
  pub few : n ≤ p.left.rows + p.right.rows
  pub left : (k : ℕ) → k < n → left_row p (words_of ws) k < p.left.rows
  pub right : (k : ℕ) → k < n → right_row p (words_of ws) k < p.right.rows

-- ---- units by mask

-- of the units of pair k those that come to mask D
abbrev pub comes_by : Sides → Words → ℕ → ℕ → ℕ
comes_by p w D k = if (eqb (meets p w k) D) (units_in p w k)

-- the sums by mask stand at place `plan`, between the tables and the pairs; no sum grows beyond a word
pub record Summable (p : Sides) (plan n : ℕ) (ws : List ℕ) : Type 0 where
  pub pairs : PairsThere p n ws
  pub left : p.left.units + p.left.rows ≤ plan
  pub right : p.right.units + p.right.rows ≤ plan
  pub before : plan ≤ p.pairs
  pub meeting : (k : ℕ) → k < n → plan + meets p (words_of ws) k < p.pairs
  pub fits : (k : ℕ) → k < n → words_of ws (plan + meets p (words_of ws) k) + sum_to n (units_in p (words_of ws)) < 2 ^ 64

-- pair k is added to its sum
abbrev pub pair_added : Sides → ℕ → ℕ → List ℕ → List ℕ
pair_added p plan k ws = let w = words_of ws in let at = plan + meets p w k in set ws at (w at + units_in p w k)

-- ---- rows

-- of x units, how many lie at or above cell j: rows at two places, of which some are used already
abbrev pub met_at : ℕ → ℕ → ℕ → ℕ → ℕ → Words → ℕ → ℕ
met_at left used_left right used_right x w j = min x (max (w (left + j) - used_left) (w (right + j) - used_right))

-- n words of both rows are there, and of one that is no other's; the sums are words
pub record Meetable (left right to n x : ℕ) (ws : List ℕ) : Type 0 where
  pub left_end : left + n ≤ length ws
  pub right_end : right + n ≤ length ws
  pub room : to + n ≤ length ws
  pub apart : (to + n ≤ left) ⊎ (left + n ≤ to)
  pub beside : (to + n ≤ right) ⊎ (right + n ≤ to)
  pub fits : (j : ℕ) → j < n → words_of ws (to + j) + x < 2 ^ 64

-- ---- all pairs

-- masks, units and rows of each table stand one behind the other, and the three tables apart from each other, before the numbers and the pairs
pub record MeetPlaces (m : Meeting) (ws : List ℕ) : Type 0 where
  pub sides : Placed m.sides ws
  pub wide : m.to.width ≤ m.to.length
  pub left : m.sides.left.units + m.sides.left.rows ≤ m.left
  pub right : m.sides.right.units + m.sides.right.rows ≤ m.right
  pub apart : (m.left + m.sides.left.rows * m.to.length ≤ m.sides.right.masks) ⊎ (m.right + m.sides.right.rows * m.to.length ≤ m.sides.left.masks)
  pub left_to : (m.left + m.sides.left.rows * m.to.length ≤ m.to.rows) ⊎ (m.to.rows + m.to.count * m.to.length ≤ m.sides.left.masks)
  pub right_to : (m.right + m.sides.right.rows * m.to.length ≤ m.to.rows) ⊎ (m.to.rows + m.to.count * m.to.length ≤ m.sides.right.masks)
  pub left_end : m.left + m.sides.left.rows * m.to.length ≤ m.numbers
  pub right_end : m.right + m.sides.right.rows * m.to.length ≤ m.numbers
  pub end : m.to.rows + m.to.count * m.to.length ≤ m.numbers
  pub before : m.numbers ≤ m.sides.pairs

-- x units of rows i and j may come to row r: no word grows too large
pub record RowsMeet (m : Meeting) (i j r x : ℕ) (ws : List ℕ) : Type 0 where
  pub places : MeetPlaces m ws
  pub left : i < m.sides.left.rows
  pub right : j < m.sides.right.rows
  pub row : r < m.to.count
  pub ours : words_of ws (m.sides.left.units + i) + x < 2 ^ 64
  pub theirs : words_of ws (m.sides.right.units + j) + x < 2 ^ 64
  pub fits : (c : ℕ) → c < m.to.width → words_of ws (row_start m.to r + c) + x < 2 ^ 64

-- they have: so many more units of both rows are used, row r has what lies at or above each cell, and nothing else is changed
pub record RowsMet (m : Meeting) (i j r x : ℕ) (xs ys : List ℕ) : Type 0 where
  pub long : length ys ≡ length xs
  pub left : words_of ys (m.sides.left.units + i) ≡ words_of xs (m.sides.left.units + i) + x
  pub right : words_of ys (m.sides.right.units + j) ≡ words_of xs (m.sides.right.units + j) + x
  pub cells : (c : ℕ) → c < m.to.width
      → words_of ys (row_start m.to r + c)
      ≡ words_of xs (row_start m.to r + c)
      + met_at (m.left + i * m.to.length) (words_of xs (m.sides.left.units + i)) (m.right + j * m.to.length) (words_of xs (m.sides.right.units + j)) x (words_of xs) c
  pub rest : (q : ℕ) → q < length xs → q ≢ m.sides.left.units + i → q ≢ m.sides.right.units + j → (q < row_start m.to r) ⊎ (row_start m.to r + m.to.width ≤ q)
      → words_of ys q ≡ words_of xs q

-- of row i of the left table, what the first n pairs use
abbrev pub used_left : Sides → Words → ℕ → ℕ → ℕ
used_left p w n i = sum_to n (λ k. if (eqb (left_row p w k) i) (units_in p w k))

-- and of row j of the right table
abbrev pub used_right : Sides → Words → ℕ → ℕ → ℕ
used_right p w n j = sum_to n (λ k. if (eqb (right_row p w k) j) (units_in p w k))

-- the number of the row that pair k comes to
abbrev pub row_for : Meeting → Words → ℕ → ℕ
row_for m w k = w (m.numbers + meets m.sides w k)

-- what of pair k lies at or above cell c, when the pairs before it have used theirs
unfoldable pub gives : Meeting → Words → ℕ → ℕ → ℕ
gives m w c k =
    let p = m.sides in
    met_at (m.left + left_row p w k * m.to.length) (used_left p w k (left_row p w k)) (m.right + right_row p w k * m.to.length) (used_right p w k (right_row p w k)) (units_in p w k) w c

-- the tables and n pairs are there; what is used of their rows is nothing yet; each pair comes to a row; and no word grows too large
pub record MeetAll (m : Meeting) (n : ℕ) (ws : List ℕ) : Type 0 where
  pub places : MeetPlaces m ws
  pub pairs : PairsThere m.sides n ws
  pub left : (i : ℕ) → i < m.sides.left.rows → words_of ws (m.sides.left.units + i) ≡ 0
  pub right : (j : ℕ) → j < m.sides.right.rows → words_of ws (m.sides.right.units + j) ≡ 0
  pub numbered : (k : ℕ) → k < n → m.numbers + meets m.sides (words_of ws) k < m.sides.pairs
  pub row : (k : ℕ) → k < n → row_for m (words_of ws) k < m.to.count
  pub most : sum_to n (units_in m.sides (words_of ws)) < 2 ^ 64
  pub fits : (r c : ℕ) → r < m.to.count → c < m.to.width → words_of ws (row_start m.to r + c) + sum_to n (units_in m.sides (words_of ws)) < 2 ^ 64

-- the first k pairs have come to their rows
pub record MetTo (m : Meeting) (k : ℕ) (xs ys : List ℕ) : Type 0 where
  pub long : length ys ≡ length xs
  pub left : (i : ℕ) → i < m.sides.left.rows → words_of ys (m.sides.left.units + i) ≡ used_left m.sides (words_of xs) k i
  pub right : (j : ℕ) → j < m.sides.right.rows → words_of ys (m.sides.right.units + j) ≡ used_right m.sides (words_of xs) k j
  pub cells : (r c : ℕ) → r < m.to.count → c < m.to.width
      → words_of ys (row_start m.to r + c) ≡ words_of xs (row_start m.to r + c) + sum_to k (λ h. if (eqb (row_for m (words_of xs) h) r) (gives m (words_of xs) c h))
  pub rest : (q : ℕ) → q < length xs → Off m.sides.left.units m.sides.left.rows q → Off m.sides.right.units m.sides.right.rows q → OffRows m.to m.to.count q
      → words_of ys q ≡ words_of xs q
