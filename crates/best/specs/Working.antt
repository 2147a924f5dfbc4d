-- What is asked of the working room before a table in it is worked.
use Rattle.std.specs.Prelude.{◌≡◌, true, List, ℕ, ◌+◌, ◌≤◌, ◌<◌, length, take, drop}
use Rattle.rules.specs.declared.BestState.{BestState}
use Rattle.rules.specs.Contents.{among}
use Rattle.rules.specs.Best.{listing}
use Rattle.rules.specs.Shape.{Every, Sound, BestLoose}
use Rattle.rules.specs.Input.{edges_of, predecessors}
use Rattle.rules.specs.Refusals.{set_counts}
use Rattle.words.specs.BestTables.{table_of}
use Rattle.best.specs.Tables.{Work, work_of}
use Rattle.best.specs.Rooms.{table_in}

-- the table of n states at place p
abbrev pub work_at : ℕ → ℕ → List ℕ → Work
work_at p n ws = work_of (take n (drop p (table_of ws)))

-- a table of at most K states, with no more hits and misses together than M
abbrev pub Table : ℕ → ℕ → List ℕ → ℕ → ℕ → List BestState → Type 0
Table N Z ts K M T = Sound listing (BestLoose N Z ts M) K T

-- Z sets of N ways, the tracked blocks and at most K states are in their ranges
pub record InRange (Z N : ℕ) (ts : List ℕ) (K : ℕ) : Type 0 where
  pub some_ways : 1 ≤ N
  pub few_ways : N ≤ 16
  pub known_sets : among set_counts Z ≡ true
  pub few_tracked : length ts ≤ 16
  pub some_states : 1 ≤ K
  pub few_states : K ≤ 64

-- there is room, and the table of n states at place p is one of at most M hits and misses
pub record Ready (Z N : ℕ) (ts : List ℕ) (K M p n : ℕ) (ws : List ℕ) : Type 0 where
  pub ranges : InRange Z N ts K
  pub room : 25920 ≤ length ws
  pub slot : p + 64 ≤ 4096
  pub count : n ≤ 64
  pub table : Table N Z ts K M (work_at p n ws).table

-- node j can be worked: its predecessors are lower, and the tables of the nodes before it are tables of at most M hits and misses
pub record Startable (Z N : ℕ) (ts : List ℕ) (K M j : ℕ) (es ws : List ℕ) : Type 0 where
  pub ranges : InRange Z N ts K
  pub room : 25920 ≤ length ws
  pub node : j < 64
  pub lower : Every (λ p. p < j) (predecessors (edges_of es) j)
  pub tables : (p : ℕ) → p < j → Table N Z ts K M (table_in p (table_of ws))
