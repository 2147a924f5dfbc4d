-- One access, by contents: where the units of a row go. A test says which masks are meant: those that come to one contents, where dead blocks have left and light contents
-- were emptied.
use Rattle.std.specs.Prelude.{Bool, cond, not, ◌&&◌, List, ℕ, zero, suc, ◌+◌, ◌-◌, ◌*◌, ◌/◌, ◌%◌, ◌^◌, ◌≤◌, ◌<◌, eqb, ltb, length}
use Rattle.basics.specs.Sums.{sum_over}
use Rattle.rules.specs.declared.Filled.{Filled}
use Rattle.rules.specs.declared.Target.{Target}
use Rattle.rules.specs.Contents.{hits, with, without, shared, held, size}
use Rattle.rules.specs.Filling.{filled_at}
use Rattle.rules.specs.Shape.{Listed}
use Rattle.tight_rows.specs.Room.{words_of}
use Rattle.tight_rows.specs.Rows.{if}
use Rattle.tight_rows.specs.Grid.{Grid}

-- the blocks of C in the accessed set: those that a miss evicts, once every way may be filled
abbrev pub risk : Target → ℕ → ℕ
risk x C = shared C x.mates

-- whether a miss evicts, where F may be filled
abbrev pub evicts : ℕ → Target → Filled → Bool
evicts N x F = not (ltb (filled_at F x.set) N)

-- at a miss of contents C, each block of E is lost by u units: those that go to masks that are meant
unfoldable pub lost_to : Target → (ℕ → Bool) → ℕ → ℕ → ℕ → ℕ
lost_to x t C E u = sum_over (λ e. if (t (with (without C e) x.place)) u) (held E)

-- contents C miss: q units for each way that may lose a block, and `stay` units that can lose none
unfoldable pub miss_to : ℕ → Target → (ℕ → Bool) → ℕ → ℕ → ℕ → ℕ
miss_to N x t C q stay = lost_to x t C (risk x C) q + if (t (with C x.place)) ((N - size (risk x C)) * q + stay)

-- of a row of contents C, those that go to masks that are meant: all units at a hit, and where no block can be lost; else with q units for each way that may lose one, and `stay`
-- units that can lose none
unfoldable pub row_goes : ℕ → Target → (ℕ → Bool) → ℕ → ℕ → ℕ → ℕ → ℕ
row_goes N x t C all q stay = cond (hits x C) (if (t C) all) (cond (eqb (risk x C) 0) (if (t (with C x.place)) all) (miss_to N x t C q stay))

-- of u units of contents C at a cell that evicts or does not, those that go to masks that are meant, but for what is left over
unfoldable pub goes_to : ℕ → Target → (ℕ → Bool) → Bool → ℕ → ℕ → ℕ
goes_to N x t lose C u = cond (eqb (risk x C) 0) (if (t (with C x.place)) u) (miss_to N x t C (if lose (u / N)) (cond lose 0 u))

-- and what is left over, which keeps the accessed block alone
unfoldable pub rest_to : ℕ → Target → (ℕ → Bool) → Bool → ℕ → ℕ → ℕ
rest_to N x t lose C u = cond (eqb (risk x C) 0) 0 (if (lose && t (with 0 x.place)) (u % N))

-- cell i of a row of n cells, f of 0, 1, .., that goes one cell further on
abbrev pub further : ℕ → (ℕ → ℕ) → ℕ → ℕ
further n f zero = 0
further n f (suc j) = if (ltb j n) (f j)

module _ (N : ℕ) (x : Target) (t : ℕ → Bool) (g : Grid) where
  -- what cell j of contents k sends on at a miss
  abbrev pub sends : ℕ → ℕ → ℕ
  sends k j = let lose = evicts N x (g.filled j) in goes_to N x t lose (g.mask k) (g.cell k j) + rest_to N x t lose (g.mask k) (g.cell k j)

  -- what of contents k comes to cell i of those that are meant: at a hit the units of cell i, and at a miss those that the cell before it sends on
  abbrev pub arrives : ℕ → ℕ → ℕ
  arrives k i = cond (hits x (g.mask k)) (if (ltb i g.width) (if (t (g.mask k)) (g.cell k i))) (further g.width (sends k) i)

-- a row of contents C can be added to the sums at place `plan`: L is live, and no sum grows beyond a word
pub record Summable (N : ℕ) (x : Target) (plan L C all q stay : ℕ) (ws : List ℕ) : Type 0 where
  pub placed : Listed 16 x.place
  pub room : plan + L < length ws
  pub ways : size (risk x C) ≤ N
  pub fits : (D : ℕ) → D ≤ L → words_of ws (plan + D) + (all + 16 * q + N * q + stay) < 2 ^ 64
