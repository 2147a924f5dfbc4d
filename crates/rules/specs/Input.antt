-- What comes in: document 01, section 2; document 02, requests 1/13, 6/13 and 12/13.
use Rattle.std.specs.Prelude.{cond, List, [], ◌∷◌, ℕ, zero, suc, ◌+◌, ◌-◌, eqb, length, get_or, take, drop}
use Rattle.basics.specs.Sums.{sum_over}
pub use Rattle.rules.specs.declared.Start.{Start}
pub use Rattle.rules.specs.declared.Start.TheVariants.{Cold as cold, Warm as warm}
use Rattle.rules.specs.declared.Cache.{Cache}

-- what a graph call is handed; of the two rooms, how many states they have room for
pub record Input : Type 0 where
  pub sets : ℕ
  pub ways : ℕ
  pub revision : ℕ
  pub start : Start
  pub limit : ℕ
  pub tracked : List ℕ
  pub lengths : List ℕ
  pub accesses : List ℕ
  pub edges : List ℕ
  pub result_room : ℕ
  pub working_room : ℕ

-- a cache of Z sets of N ways, of revision v, found as o says
abbrev pub cache : ℕ → ℕ → ℕ → Start → Cache
cache Z N v o = record { sets = Z; ways = N; revision = v; start = o }

-- the cache c, at most K states, the tracked blocks ts, the run lengths ns, the accesses bs, the edges es, rooms of r and w states
abbrev pub input_in : Cache → ℕ → List ℕ → List ℕ → List ℕ → List ℕ → ℕ → ℕ → Input
input_in c K ts ns bs es r w =
    record {
      sets = c.sets;
      ways = c.ways;
      revision = c.revision;
      start = c.start;
      limit = K;
      tracked = ts;
      lengths = ns;
      accesses = bs;
      edges = es;
      result_room = r;
      working_room = w;
    }

-- the same, with exactly the room that is needed
abbrev pub input_of : Cache → ℕ → List ℕ → List ℕ → List ℕ → List ℕ → Input
input_of c K ts ns bs es = input_in c K ts ns bs es K 5184

-- how many nodes there are: one for each run length
abbrev pub nodes : Input → ℕ
nodes i = length i.lengths

-- where node j's run starts: behind the runs of the nodes before it
unfoldable pub offset : List ℕ → ℕ → ℕ
offset lengths j = sum_over (λ n. n) (take j lengths)

-- node j's run: a stretch of the one access list
unfoldable pub run_of : Input → ℕ → List ℕ
run_of i j = take (get_or i.lengths j 0) (drop (offset i.lengths j) i.accesses)

-- ---- edges

-- from a node, to a node
pub record Edge : Type 0 where
  pub from : ℕ
  pub to : ℕ

-- the edges, listed flat: from, to, from, to ..
abbrev pub edges_of : List ℕ → List Edge
edges_of [] = []
edges_of (a ∷ []) = []
edges_of (a ∷ b ∷ ns) = record { from = a; to = b } ∷ edges_of ns

-- the nodes that edges into node j come from, in the order of the list
unfoldable pub predecessors : List Edge → ℕ → List ℕ
predecessors [] j = []
predecessors (e ∷ es) j = cond (eqb e.to j) (e.from ∷ predecessors es j) (predecessors es j)

-- the joins at node j: one for each predecessor but the first
abbrev pub joins_at : List Edge → ℕ → ℕ
joins_at es j = length (predecessors es j) - 1

-- the joins at the nodes before node j
unfoldable pub joins_to : List Edge → ℕ → ℕ
joins_to es zero = 0
joins_to es (suc j) = joins_to es j + joins_at es j
