-- The stage: what stands in a slot before the row ends of an access, when its rows are added up and its filled numbers are not settled yet. The states with as many
-- misses as a cell says are of two groups: those that hit, whose filled numbers are the cell's of before, and those that missed, whose filled numbers are those of the
-- cell before it with one way more. Six rows beside the slot say of each cell which numbers these are, and how many units either group has.
use Rattle.std.specs.Prelude.{◌≡◌, Bool, cond, ◌&&◌, ℕ, suc, ◌+◌, ◌*◌, ◌≤◌, ◌<◌, eqb}
use Rattle.basics.specs.Sums.{sum_over}
use Rattle.rules.specs.Units.{whole}
use Rattle.rules.specs.declared.Filled.{Filled}
use Rattle.rules.specs.declared.State.{State}
use Rattle.rules.specs.Table.{units_of, total}
use Rattle.rules.specs.Shape.{Every}
use Rattle.tight_rules.specs.Rows.{Rows}
use Rattle.tight_rules.specs.Ends.{allowance}
use Rattle.tight_rows.specs.Room.{Words}
use Rattle.tight_rows.specs.Grid.{Grid}

-- for each cell: the filled numbers of those that hit and of those that missed, and the units of either over all contents
pub record Groups : Type 0 where
  pub hit : ℕ → Filled
  pub missed : ℕ → Filled
  pub hit_units : ℕ → ℕ
  pub missed_units : ℕ → ℕ

-- word j of row r of the six, each of W + 1 words, which start at place e
abbrev pub stage_at : ℕ → ℕ → ℕ → ℕ → ℕ
stage_at W e r j = e + r * suc W + j

-- the rows in order: the units of those that hit and of those that missed; the front words and the back words of those that hit; and of those that missed
abbrev pub groups_of : ℕ → ℕ → Words → Groups
groups_of W e w =
    record {
      hit_units = λ j. w (stage_at W e 0 j);
      missed_units = λ j. w (stage_at W e 1 j);
      hit = λ j. record { front = w (stage_at W e 2 j); back = w (stage_at W e 3 j) };
      missed = λ j. record { front = w (stage_at W e 4 j); back = w (stage_at W e 5 j) };
    }

-- s stands in row k, in cell j, and has units
pub record Placed (g : Grid) (s : State) : Type 0 where
  pub k : ℕ
  pub j : ℕ
  pub row : k < g.count
  pub column : j < g.width
  pub mask : s.mask ≡ g.mask k
  pub misses : s.misses ≡ g.base + j
  pub some : 1 ≤ units_of s

-- grid and groups mean the rows r: at most K contents, rising, and at most W cells, none in use beyond; every state stands in a cell; the units of a cell are those of the states there; and for
-- any test of filled numbers, the units with so many misses that pass it are those of the groups whose numbers pass it. Units and lost units total WHOLE, and there are
-- more units than may leave
pub record Staged (K W : ℕ) (g : Grid) (h : Groups) (r : Rows) : Type 0 where
  pub few : g.count ≤ K
  pub narrow : g.width ≤ W
  pub rises : (i k : ℕ) → i < k → k < g.count → g.mask i < g.mask k
  pub placed : Every (Placed g) r.kept.table
  pub cells : (k j : ℕ) → k < g.count → j < g.width
      → sum_over (λ s. cond (eqb s.mask (g.mask k) && eqb s.misses (g.base + j)) (units_of s) 0) r.kept.table ≡ g.cell k j
  pub groups : (P : Filled → Bool) (j : ℕ) → j < g.width
      → sum_over (λ s. cond (eqb s.misses (g.base + j) && P s.filled) (units_of s) 0) r.kept.table
      ≡ cond (P (h.hit j)) (h.hit_units j) 0 + cond (P (h.missed j)) (h.missed_units j) 0
  pub lost : g.lost ≡ r.lost
  pub full : total r.kept.table + r.lost ≡ whole
  pub heavy : allowance < total r.kept.table
