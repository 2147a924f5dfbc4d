-- One access from slot to slot, before the row ends: what goes to each mask, what comes to each cell, and what the stage says, from the grid of before. What is left over of
-- all contents is added up for each cell, and goes with the accessed block alone. A test says which masks are meant, as in Access.antt.
use Rattle.std.specs.Prelude.{◌≡◌, ◌⊎◌, Bool, cond, not, List, ℕ, suc, ◌+◌, ◌*◌, ◌/◌, ◌%◌, ◌^◌, ◌≤◌, ◌<◌, eqb, ltb, length}
use Rattle.basics.proofs.Sums.{sum_to}
use Rattle.rules.specs.declared.Target.{Target}
use Rattle.rules.specs.Contents.{hits, with, shared, Last}
use Rattle.rules.specs.Filling.{fill_one}
use Rattle.rules.specs.Units.{whole, more}
use Rattle.tight_rules.specs.Ends.{allowance}
use Rattle.tight_rules.specs.Run.{advance, run}
use Rattle.tight_rules.proofs.Moves.{Fit}
use Rattle.tight_rows.specs.declared.Opening.{Opening}
use Rattle.tight.specs.declared.Sender.{Sender}
use Rattle.tight_rows.specs.Room.{Words, slot_words}
use Rattle.tight.specs.Sending.{start_at, mask_in, units_in}
use Rattle.tight.specs.Selecting.{ones, chosen}
use Rattle.tight.specs.Access.{evicts, row_goes, goes_to, further}
use Rattle.tight_rows.specs.Rows.{if}
use Rattle.tight.specs.Splitting.{can_lose}
use Rattle.tight_rows.specs.Grid.{Grid, rows_of, Neat}
use Rattle.tight_ends.specs.Stage.{Groups}

module _ (N : ℕ) (x : Target) (g : Grid) where
  -- whether a miss evicts a block at cell j
  abbrev pub loses : ℕ → Bool
  loses j = evicts N x (g.filled j)

  -- of contents k the part of one way, over the cells at which a miss evicts a block
  abbrev pub part_of : ℕ → ℕ
  part_of k = sum_to g.width (λ j. if (loses j) (g.cell k j / N))

  -- and the units of the other cells
  abbrev pub stay_of : ℕ → ℕ
  stay_of k = sum_to g.width (λ j. if (not (loses j)) (g.cell k j))

  -- what is left over of cell j, over the contents that can lose a block
  abbrev pub left_in : ℕ → ℕ
  left_in j = sum_to g.count (λ k. if (can_lose x (g.mask k)) (if (loses j) (g.cell k j % N)))

  -- and over all cells, which is set aside
  abbrev pub left_in_all : ℕ
  left_in_all = sum_to g.width left_in

  -- the units that hit at cell j
  abbrev pub hit_in : ℕ → ℕ
  hit_in j = sum_to g.count (λ k. if (hits x (g.mask k)) (g.cell k j))

  -- and those that miss
  abbrev pub miss_in : ℕ → ℕ
  miss_in j = sum_to g.count (λ k. if (not (hits x (g.mask k))) (g.cell k j))

  module _ (t : ℕ → Bool) where
    -- the units that go to masks that are meant
    abbrev pub sum_for : ℕ
    sum_for = sum_to g.count (λ k. row_goes N x t (g.mask k) (g.units k) (part_of k) (stay_of k)) + if (t (with 0 x.place)) left_in_all

    -- what contents k bring to cell i of those that are meant, but for what is left over
    abbrev pub brings : ℕ → ℕ → ℕ
    brings k i =
        cond (hits x (g.mask k)) (if (ltb i g.width) (if (t (g.mask k)) (g.cell k i)))
        (further g.width (λ j. goes_to N x t (loses j) (g.mask k) (g.cell k j)) i)

    -- all that comes to cell i of those that are meant
    abbrev pub cell_for : ℕ → ℕ
    cell_for i = sum_to g.count (λ k. brings k i) + further g.width (λ j. if (t (with 0 x.place)) (left_in j)) i

-- what is sent from the slot at place a, where the rows that choose cells and the one for what is left over are the last four of the stage at place e
abbrev pub sender_of : ℕ → ℕ → ℕ → ℕ → Grid → Sender
sender_of K W a e g =
    record {
      masks = a + 4;
      units = a + 4 + K;
      rows = a + 4 + 2 * K + 2 * W;
      length = W;
      count = g.count;
      width = g.width;
      lose = e + 2 * (W + 1);
      keep = e + 3 * (W + 1);
      all = e + 4 * (W + 1);
      rest = e + 5 * (W + 1);
    }

-- the slots at places a and b are apart and stand before the plan, whose three arrays of n words stand before the stage at place e, all in `size` words
pub record Laid (K W a b plan n e size : ℕ) : Type 0 where
  pub first : a + slot_words K W ≤ plan
  pub second : b + slot_words K W ≤ plan
  pub apart : (a + slot_words K W ≤ b) ⊎ (b + slot_words K W ≤ a)
  pub behind : plan + 3 * n ≤ e
  pub inside : e + 6 * suc W ≤ size

-- the table that is opened in the slot at place b, for the plan's n masks
abbrev pub opening_of : ℕ → ℕ → ℕ → ℕ → ℕ → Opening
opening_of K W b plan n = record { plan = plan; goes = plan + n; numbers = plan + 2 * n; masks = n; slot = b; contents = K; cells = W }

-- the words w have the rows of grid g as an access sends them on: split among the ways where contents can lose a block, and beside them what is left over and what chooses cells
pub record Sendable (N : ℕ) (x : Target) (g : Grid) (s : Sender) (w : Words) : Type 0 where
  pub count : s.count ≡ g.count
  pub width : s.width ≡ g.width
  pub mask : (k : ℕ) → k < g.count → mask_in s w k ≡ g.mask k
  pub units : (k : ℕ) → k < g.count → units_in s w k ≡ g.units k
  pub cell : (k j : ℕ) → k < g.count → j < g.width
      → w (start_at s k + j) ≡ cond (can_lose x (g.mask k)) (cond (loses N x g j) (g.cell k j / N) (g.cell k j)) (g.cell k j)
  pub lose : (j : ℕ) → j < g.width → w (s.lose + j) ≡ chosen (loses N x g j)
  pub keep : (j : ℕ) → j < g.width → w (s.keep + j) ≡ chosen (not (loses N x g j))
  pub all : (j : ℕ) → j < g.width → w (s.all + j) ≡ ones
  pub rest : (j : ℕ) → j < g.width → w (s.rest + j) ≡ left_in N x g j

-- grid b and the groups h after an access of x, at most K contents of T places, of which the places L are live: a row for each mask that has units, `sums` of each mask; where
-- the units of a mask go in the end, `ends`; and `number`, the row in which they end
pub record Accessed (T K N : ℕ) (x : Target) (L : ℕ) (sums ends number : ℕ → ℕ) (g b : Grid) (h : Groups) : Type 0 where
  pub few : b.count ≤ K
  pub base : b.base ≡ g.base
  pub width : b.width ≡ suc g.width
  pub lost : b.lost ≡ g.lost
  pub rises : (i k : ℕ) → i < k → k < b.count → b.mask i < b.mask k
  pub row : (k : ℕ) → k < b.count → (b.mask k < 2 ^ T) × (1 ≤ sums (b.mask k)) × (number (b.mask k) ≡ k)
  pub opened : (C : ℕ) → C < 2 ^ T → 1 ≤ sums C → (number C < b.count) × (b.mask (number C) ≡ C)
  pub end : (C : ℕ) → C < 2 ^ T → number C ≡ number (ends C)
  pub cells : (k i : ℕ) → k < b.count → i < b.width → b.cell k i ≡ cell_for N x g (λ C. eqb (number (shared C L)) k) i
  pub hit_units : (j : ℕ) → j < b.width → h.hit_units j ≡ if (ltb j g.width) (hit_in N x g j)
  pub missed_units : (j : ℕ) → j < b.width → h.missed_units j ≡ further g.width (miss_in N x g) j
  pub hit : (j : ℕ) → j < g.width → h.hit j ≡ g.filled j
  pub missed : (j : ℕ) → j < g.width → h.missed (suc j) ≡ fill_one N x.set (g.filled j)

-- what the grid of a table is after at most M accesses on any path to it, in Z sets of N ways with the tracked blocks ts: neat, with room for one miss more, its rows in shape,
-- its units and lost units WHOLE in all, and no more lost than may leave at each access
pub record Holding (N Z : ℕ) (ts : List ℕ) (K W M : ℕ) (g : Grid) : Type 0 where
  pub neat : Neat K W g
  pub room : g.width < W
  pub fit : Fit N Z ts M (rows_of 0 g)
  pub few : g.lost ≤ allowance * M

-- grid b is what an access of x makes of g, after which the places L are live, and u units are set aside
pub record Advanced (N Z : ℕ) (ts : List ℕ) (K W M : ℕ) (x : Target) (L : ℕ) (g b : Grid) (u : ℕ) : Type 0 where
  pub holds : Holding N Z ts K W (suc M) b
  pub means : (a : ℕ) → advance N K W (length ts) x L (rows_of a g) ≡ rows_of (more a u) b

-- of the accesses bs of a run from g, p accessed directly before them, n are done and cs are left, q accessed directly before these; b is the grid so far, and u units are set aside
pub record Ran (N Z : ℕ) (ts : List ℕ) (K W M L : ℕ) (p : Last) (bs : List ℕ) (g : Grid) (n : ℕ) (q : Last) (cs : List ℕ) (b : Grid) (u : ℕ) : Type 0 where
  pub holds : Holding N Z ts K W (n + M) b
  pub means : (a : ℕ) → a ≤ whole → run N Z K W ts L p bs (rows_of a g) ≡ run N Z K W ts L q cs (rows_of (more a u) b)
