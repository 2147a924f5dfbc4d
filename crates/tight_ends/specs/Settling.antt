-- What row ends make of a slot and its stage, when the first `bot` cells of each row rise: the cells of a row, the filled numbers of a cell, and the units whose filled
-- numbers change.
use Rattle.std.specs.Prelude.{◌≡◌, cond, not, List, ℕ, zero, suc, ◌+◌, ◌-◌, ◌^◌, ◌≤◌, ◌<◌, eqb, ltb, length, set}
use Rattle.basics.proofs.Sums.{sum_to}
use Rattle.rules.specs.declared.Filled.{Filled}
use Rattle.rules.specs.Filling.{fullest, same_filled}
use Rattle.rules.specs.Table.{no_state}
use Rattle.tight_rows.specs.Room.{words_of}
use Rattle.tight_rows.specs.Grid.{Grid}
use Rattle.tight_ends.specs.Stage.{Groups}

-- the units of a cell over all contents, of both groups
abbrev pub both : Groups → ℕ → ℕ
both h j = h.hit_units j + h.missed_units j

-- cell i of a row f of which the first bot cells rise
unfoldable pub gathered : ℕ → (ℕ → ℕ) → ℕ → ℕ
gathered bot f i = cond (eqb i 0) (sum_to (suc bot) f) (f (bot + i))

-- the filled numbers F of a group of u units: none, where there are no units
abbrev pub in_use : ℕ → Filled → Filled
in_use u F = cond (eqb u 0) no_state.filled F

-- the larger numbers of the two groups of cell j
unfoldable pub filled_in : Groups → ℕ → Filled
filled_in h j = fullest (in_use (h.hit_units j) (h.hit j)) (in_use (h.missed_units j) (h.missed j))

-- and over the cells below n
unfoldable pub filled_to : Groups → ℕ → Filled
filled_to h zero = no_state.filled
filled_to h (suc n) = fullest (filled_to h n) (filled_in h n)

-- the filled numbers of cell i, when the first bot cells have risen
unfoldable pub settled_filled : Groups → ℕ → ℕ → Filled
settled_filled h bot i = cond (eqb i 0) (filled_to h (suc bot)) (filled_in h (bot + i))

-- the units of a cell's groups whose filled numbers are not F
unfoldable pub unlike : Groups → ℕ → Filled → ℕ
unlike h j F = cond (not (same_filled (h.hit j) F)) (h.hit_units j) 0 + cond (not (same_filled (h.missed j) F)) (h.missed_units j) 0

-- over the first n cells: cell j becomes cell j - bot, and those below bot become the first
unfoldable pub unlike_to : Groups → ℕ → ℕ → ℕ
unlike_to h bot n = sum_to n (λ j. unlike h j (settled_filled h bot (j - bot)))

-- the units of row k of g that stay
abbrev pub staying : Grid → Grid → ℕ → ℕ → ℕ
staying g g' bot k = sum_to g'.width (gathered bot (g.cell k))

-- row k of g' comes from a row of g that keeps units: the same contents, and its cells
pub record Comes (g g' : Grid) (bot k : ℕ) : Type 0 where
  pub from : ℕ
  pub row : from < g.count
  pub some : 1 ≤ staying g g' bot from
  pub mask : g'.mask k ≡ g.mask from
  pub cells : (i : ℕ) → i < g'.width → g'.cell k i ≡ gathered bot (g.cell from) i

-- the contents of row k of g are in g'
pub record Stays (g g' : Grid) (k : ℕ) : Type 0 where
  pub to : ℕ
  pub row : to < g'.count
  pub mask : g'.mask to ≡ g.mask k

-- g' is g with so many cells to a row, when the first bot cells have risen: of its rows all that keep units
pub record Kept (g g' : Grid) (bot : ℕ) : Type 0 where
  pub base : g'.base ≡ g.base + bot
  pub rises : (i k : ℕ) → i < k → k < g'.count → g'.mask i < g'.mask k
  pub comes : (k : ℕ) → k < g'.count → Comes g g' bot k
  pub stays : (k : ℕ) → k < g.count → 1 ≤ staying g g' bot k → Stays g g' k

-- a row f when its first bot cells have risen and `wide` are left: cells beyond are 0
abbrev pub gathered_row : ℕ → ℕ → (ℕ → ℕ) → ℕ → ℕ
gathered_row bot wide f j = cond (ltb j wide) (gathered bot f j) 0

-- a row of `cells` words at `from` is there and goes up to `to`, or stays; its first bot cells and `wide` more are its own, and the sum is a word
pub record Gathering (from to bot wide cells : ℕ) (ws : List ℕ) : Type 0 where
  pub down : to ≤ from
  pub some : 1 ≤ wide
  pub within : bot + wide ≤ cells
  pub inside : from + cells ≤ length ws
  pub fits : sum_to (bot + 1) (λ j. words_of ws (from + j)) < 2 ^ 64

-- the words of F written at two places, each the i-th from one on
abbrev pub filled_put : ℕ → ℕ → ℕ → Filled → List ℕ → List ℕ
filled_put fronts backs i F ws = set (set ws (fronts + i) F.front) (backs + i) F.back
