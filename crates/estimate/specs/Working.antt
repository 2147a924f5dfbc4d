-- What is asked of the working room before a table in it is worked.
use Rattle.std.specs.Prelude.{◌≡◌, true, List, ℕ, ◌+◌, ◌≤◌, ◌<◌, length, take, drop}
use Rattle.rules.specs.declared.Cache.{Cache}
use Rattle.rules.specs.Units.{whole}
use Rattle.rules.specs.Contents.{among}
use Rattle.rules.specs.Table.{Work}
use Rattle.rules.specs.Shape.{Every, Table}
use Rattle.rules.specs.Input.{edges_of, predecessors}
use Rattle.rules.specs.Refusals.{set_counts}
pub use Rattle.states.specs.Filling.{start_of}
use Rattle.words.specs.Tables.{table_of}
use Rattle.estimate.specs.Rooms.{table_in}

-- the table of n states at place p, with the set-aside count a
abbrev pub work_at : ℕ → ℕ → ℕ → List ℕ → Work
work_at p n a ws = record { table = take n (drop p (table_of ws)); aside = a }

-- the cache, the tracked blocks and at most K states are in their ranges
pub record InRange (c : Cache) (ts : List ℕ) (K : ℕ) : Type 0 where
  pub some_ways : 1 ≤ c.ways
  pub few_ways : c.ways ≤ 16
  pub known_sets : among set_counts c.sets ≡ true
  pub few_tracked : length ts ≤ 16
  pub some_states : 1 ≤ K
  pub few_states : K ≤ 64

-- there is room, and the table of n states at place p, with the set-aside count a, is one of at most M misses
pub record Ready (c : Cache) (ts : List ℕ) (K M p n a : ℕ) (ws : List ℕ) : Type 0 where
  pub ranges : InRange c ts K
  pub room : 25920 ≤ length ws
  pub slot : p + 64 ≤ 4096
  pub count : n ≤ 64
  pub aside : a ≤ whole
  pub table : Table c.ways c.sets ts K M (work_at p n a ws).table

-- node j can be worked: its predecessors are lower, and the tables of the nodes before it are tables of at most M misses
pub record Startable (c : Cache) (ts : List ℕ) (K M j a : ℕ) (es ws : List ℕ) : Type 0 where
  pub ranges : InRange c ts K
  pub room : 25920 ≤ length ws
  pub node : j < 64
  pub aside : a ≤ whole
  pub lower : Every (λ p. p < j) (predecessors (edges_of es) j)
  pub tables : (p : ℕ) → p < j → Table c.ways c.sets ts K M (table_in p (table_of ws))
