-- Rows on their way to a table: what each word of the room has more, and when there is room for it.
use Rattle.std.specs.Prelude.{◌⊎◌, cond, List, ℕ, ◌+◌, ◌-◌, ◌*◌, ◌^◌, ◌≤◌, ◌<◌, eqb, length}
use Rattle.basics.specs.Sums.{sum_over}
use Rattle.basics.proofs.Sums.{sum_to}
use Rattle.rules.specs.declared.Target.{Target}
use Rattle.rules.specs.Contents.{hits, with, without, shared, held, size}
use Rattle.tight.specs.declared.Route.{Route}
use Rattle.tight_rows.specs.Room.{Words, words_of}
use Rattle.tight_rows.specs.Rows.{within, selected, if}
use Rattle.tight.specs.Access.{risk}

-- every word has v more, by its place and the words before
abbrev pub plus : (Words → ℕ → ℕ) → Words → Words
plus v w i = w i + v w i

-- where the row of mask D starts
abbrev pub start_of : Route → Words → ℕ → ℕ
start_of r w D = r.cells + w (r.numbers + D) * r.length

-- what the word at place i has more when the row comes to mask D, so many times, and each word so many cells further on
abbrev pub comes : Route → ℕ → ℕ → ℕ → Words → ℕ → ℕ
comes r shift times D w i =
    let a = start_of r w D + shift in
    if (within a r.width i) (selected w (r.from + (i - a)) (r.select + (i - a)) * times)

-- n words from place a on are none of the table's
abbrev pub Beside : Route → ℕ → ℕ → Type 0
Beside r a n = (a + n ≤ r.cells) ⊎ (r.cells + r.rows * r.length ≤ a)

-- the words of the row, in all
abbrev pub row_units : Route → Words → ℕ
row_units r w = sum_to r.width (λ j. w (r.from + j))

-- everything is there, the row and what chooses and numbers it beside the table; each mask of L has a row; there is room for one cell more; and s times all of the row's words
-- can be added to each of the table's
pub record Movable (r : Route) (L s : ℕ) (ws : List ℕ) : Type 0 where
  pub inside : r.from + r.width ≤ length ws
  pub chosen : r.select + r.width ≤ length ws
  pub numbered : r.numbers + L < length ws
  pub room : r.cells + r.rows * r.length ≤ length ws
  pub wide : r.width < r.length
  pub number : (D : ℕ) → D ≤ L → words_of ws (r.numbers + D) < r.rows
  pub apart : Beside r r.from r.width
  pub beside : Beside r r.select r.width
  pub behind : Beside r r.numbers (L + 1)
  pub fits : (i : ℕ) → r.cells ≤ i → i < r.cells + r.rows * r.length → words_of ws i + s * row_units r (words_of ws) < 2 ^ 64

-- the same row, of which other words are chosen
abbrev pub choosing : Route → ℕ → Route
choosing r select =
    record { from = r.from; select = select; width = r.width; numbers = r.numbers; cells = r.cells; rows = r.rows; length = r.length }

-- contents C with the accessed block, as far as they are live
abbrev pub end_of : Target → ℕ → ℕ → ℕ
end_of x L C = shared (with C x.place) L

-- what the word at place i has more when a row of contents C misses, one cell further on: each block of those at risk is lost, the other ways keep them all, and so do
-- the words that `keep` chooses
unfoldable pub miss_comes : ℕ → Target → ℕ → Route → ℕ → ℕ → Words → ℕ → ℕ
miss_comes N x L r keep C w i =
    sum_over (λ e. comes r 1 1 (end_of x L (without C e)) w i) (held (risk x C)) + comes r 1 (N - size (risk x C)) (end_of x L C) w i
    + comes (choosing r keep) 1 1 (end_of x L C) w i

-- and when it hits, stays where it is; or, where no block can be lost, goes one cell further on as a whole: `all` chooses every word
unfoldable pub row_comes : ℕ → Target → ℕ → Route → ℕ → ℕ → ℕ → Words → ℕ → ℕ
row_comes N x L r keep all C w i =
    cond (hits x C) (comes (choosing r all) 0 1 (shared C L) w i)
    (cond (eqb (risk x C) 0) (comes (choosing r all) 1 1 (end_of x L C) w i) (miss_comes N x L r keep C w i))
