-- The rows of a table that an access sends on, one after the other: what goes to each mask, and what comes to each word of the table after it.
use Rattle.std.specs.Prelude.{◌≡◌, ◌⊎◌, List, ℕ, ◌+◌, ◌*◌, ◌^◌, ◌≤◌, ◌<◌, length}
use Rattle.basics.proofs.Sums.{sum_to}
use Rattle.rules.specs.declared.Target.{Target}
use Rattle.rules.specs.Contents.{with, size}
use Rattle.rules.specs.Shape.{Listed}
use Rattle.tight.specs.declared.Route.{Route}
use Rattle.tight.specs.declared.Sender.{Sender}
use Rattle.tight.specs.declared.Receiver.{Receiver}
use Rattle.tight_rows.specs.Room.{Words, words_of}
use Rattle.tight_rows.specs.Rows.{row_sum, if, comes_to}
use Rattle.tight.specs.Access.{risk, row_goes}
use Rattle.tight.specs.Moving.{comes, end_of, row_units, row_comes}

-- where row k starts
abbrev pub start_at : Sender → ℕ → ℕ
start_at s k = s.rows + k * s.length

-- the contents of row k
abbrev pub mask_in : Sender → Words → ℕ → ℕ
mask_in s w k = w (s.masks + k)

-- the units of row k
abbrev pub units_in : Sender → Words → ℕ → ℕ
units_in s w k = w (s.units + k)

-- those of its words of which a miss evicts a block, in all
abbrev pub part_in : Sender → Words → ℕ → ℕ
part_in s w k = row_sum (start_at s k) s.lose s.width w

-- and those of which it evicts none
abbrev pub stay_in : Sender → Words → ℕ → ℕ
stay_in s w k = row_sum (start_at s k) s.keep s.width w

-- what is left over of all rows
abbrev pub rest_in : Sender → Words → ℕ
rest_in s w = row_sum s.rest s.all s.width w

-- ---- the units that go to each mask

-- what of row k goes to mask D
abbrev pub goes_from : ℕ → Target → ℕ → Sender → Words → ℕ → ℕ → ℕ
goes_from N x L s w D k = row_goes N x (comes_to L D) (mask_in s w k) (units_in s w k) (part_in s w k) (stay_in s w k)

-- no more than this
abbrev pub most_from : ℕ → Sender → Words → ℕ → ℕ
most_from N s w k = units_in s w k + 16 * part_in s w k + N * part_in s w k + stay_in s w k

-- the masks, the units and the rows stand before the n words of the plan, and what chooses cells behind them
pub record Sending (s : Sender) (plan n : ℕ) (ws : List ℕ) : Type 0 where
  pub wide : s.width ≤ s.length
  pub masks : s.masks + s.count ≤ plan
  pub units : s.units + s.count ≤ plan
  pub rows : s.rows + s.count * s.length ≤ plan
  pub lose : plan + n ≤ s.lose
  pub keep : plan + n ≤ s.keep
  pub lose_end : s.lose + s.width ≤ length ws
  pub keep_end : s.keep + s.width ≤ length ws

-- all rows can be added to the sums: no contents have more blocks at risk than there are ways, and no sum grows beyond a word
pub record Addable (N : ℕ) (x : Target) (L : ℕ) (s : Sender) (plan : ℕ) (ws : List ℕ) : Type 0 where
  pub placed : Listed 16 x.place
  pub ways : (k : ℕ) → k < s.count → size (risk x (mask_in s (words_of ws) k)) ≤ N
  pub fits : (D : ℕ) → D ≤ L → words_of ws (plan + D) + sum_to s.count (most_from N s (words_of ws)) < 2 ^ 64

-- so can what is left over, when all sums of n masks are 0: L is live
pub record Totalling (N : ℕ) (x : Target) (L : ℕ) (s : Sender) (plan n : ℕ) (ws : List ℕ) : Type 0 where
  pub there : Sending s plan n ws
  pub live : L < n
  pub rest : plan + n ≤ s.rest
  pub all : plan + n ≤ s.all
  pub rest_end : s.rest + s.width ≤ length ws
  pub all_end : s.all + s.width ≤ length ws
  pub placed : Listed 16 x.place
  pub ways : (k : ℕ) → k < s.count → size (risk x (mask_in s (words_of ws) k)) ≤ N
  pub fits : sum_to s.count (most_from N s (words_of ws)) + rest_in s (words_of ws) < 2 ^ 64

-- the sums of n masks are what goes to each, of all rows and of the u units that are left over; nothing else is changed
pub record Totalled (N : ℕ) (x : Target) (L : ℕ) (s : Sender) (plan n u : ℕ) (xs ys : List ℕ) : Type 0 where
  pub long : length ys ≡ length xs
  pub left : u ≡ rest_in s (words_of xs)
  pub sums : (C : ℕ) → C < n → words_of ys (plan + C) ≡ sum_to s.count (goes_from N x L s (words_of xs) C) + if (comes_to L C (with 0 x.place)) (rest_in s (words_of xs))
  pub beside : (i : ℕ) → i < length xs → (i < plan) ⊎ (plan + n ≤ i) → words_of ys i ≡ words_of xs i

-- ---- what comes to the table after it

-- row k on its way, where the words at `select` choose
abbrev pub route_at : Receiver → Sender → ℕ → ℕ → Route
route_at t s select k = record { from = start_at s k; select = select; width = s.width; numbers = t.numbers; cells = t.cells; rows = t.rows; length = t.length }

-- and what is left over
abbrev pub rest_route : Receiver → Sender → Route
rest_route t s = record { from = s.rest; select = s.all; width = s.width; numbers = t.numbers; cells = t.cells; rows = t.rows; length = t.length }

-- what the word at place i has more by row k
abbrev pub comes_from : ℕ → Target → ℕ → Receiver → Sender → Words → ℕ → ℕ → ℕ
comes_from N x L t s w i k = row_comes N x L (route_at t s s.lose k) s.keep s.all (mask_in s w k) w i

-- and by what is left over, which keeps the accessed block alone
abbrev pub rest_comes : Target → ℕ → Receiver → Sender → Words → ℕ → ℕ
rest_comes x L t s w i = comes (rest_route t s) 1 1 (end_of x L 0) w i

-- the words of row k, in all
abbrev pub row_in : Receiver → Sender → Words → ℕ → ℕ
row_in t s w k = row_units (route_at t s s.lose k) w

-- n words from place a on are none of the table's
abbrev pub Clear : Receiver → ℕ → ℕ → Type 0
Clear t a n = (a + n ≤ t.cells) ⊎ (t.cells + t.rows * t.length ≤ a)

-- the table that receives is there, with room for one cell more, each mask of L has a row, and what is sent is beside it
pub record Receiving (t : Receiver) (L : ℕ) (s : Sender) (ws : List ℕ) : Type 0 where
  pub long : s.width ≤ s.length
  pub wide : s.width < t.length
  pub room : t.cells + t.rows * t.length ≤ length ws
  pub numbered : t.numbers + L < length ws
  pub number : (D : ℕ) → D ≤ L → words_of ws (t.numbers + D) < t.rows
  pub masks_end : s.masks + s.count ≤ length ws
  pub rows_end : s.rows + s.count * s.length ≤ length ws
  pub lose_end : s.lose + s.width ≤ length ws
  pub keep_end : s.keep + s.width ≤ length ws
  pub all_end : s.all + s.width ≤ length ws
  pub rest_end : s.rest + s.width ≤ length ws
  pub behind : Clear t t.numbers (L + 1)
  pub masks : Clear t s.masks s.count
  pub rows : Clear t s.rows (s.count * s.length)
  pub lose : Clear t s.lose s.width
  pub keep : Clear t s.keep s.width
  pub all : Clear t s.all s.width
  pub rest : Clear t s.rest s.width

-- u times the words of row k can be added to each of the table's
abbrev pub Fits : Receiver → Sender → ℕ → ℕ → List ℕ → Type 0
Fits t s u k ws = (i : ℕ) → t.cells ≤ i → i < t.cells + t.rows * t.length → words_of ws i + u * row_in t s (words_of ws) k < 2 ^ 64

-- row k can be moved
pub record RowMovable (N : ℕ) (x : Target) (L : ℕ) (t : Receiver) (s : Sender) (k : ℕ) (ws : List ℕ) : Type 0 where
  pub row : k < s.count
  pub placed : Listed 16 x.place
  pub few : N ≤ 16
  pub ways : size (risk x (mask_in s (words_of ws) k)) ≤ N
  pub there : Receiving t L s ws
  pub fits : Fits t s 33 k ws

-- all rows can be added to the table, and what is left over: no contents have more blocks at risk than there are ways, and no word of the table grows beyond a word
pub record Movings (N : ℕ) (x : Target) (t : Receiver) (s : Sender) (ws : List ℕ) : Type 0 where
  pub placed : Listed 16 x.place
  pub few : N ≤ 16
  pub ways : (k : ℕ) → k < s.count → size (risk x (mask_in s (words_of ws) k)) ≤ N
  pub fits : (i : ℕ) → t.cells ≤ i → i < t.cells + t.rows * t.length
      → words_of ws i + (33 * sum_to s.count (row_in t s (words_of ws)) + row_units (rest_route t s) (words_of ws)) < 2 ^ 64
