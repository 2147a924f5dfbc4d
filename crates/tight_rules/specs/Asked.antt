-- What the second analysis is handed: document 01's graph and cache, with limits of its own.
use Rattle.std.specs.Prelude.{ℕ, List}
use Rattle.rules.specs.declared.Start.{Start}
use Rattle.rules.specs.declared.Cache.{Cache}
use Rattle.rules.specs.Input.{Input}

-- the cache; at most so many contents in a table, and so many cells in a row with room for one access more; the tracked blocks, those accessed most often first;
-- the graph; of the result room how many cells it has, and of the working room how many words
pub record Asked : Type 0 where
  pub sets : ℕ
  pub ways : ℕ
  pub revision : ℕ
  pub start : Start
  pub contents : ℕ
  pub cells : ℕ
  pub tracked : List ℕ
  pub lengths : List ℕ
  pub accesses : List ℕ
  pub edges : List ℕ
  pub result_room : ℕ
  pub working_room : ℕ

-- the cache c, at most K contents and W cells, the tracked blocks ts, the run lengths ns, the accesses bs, the edges es, rooms of r cells and of w words
abbrev pub asked_in : Cache → ℕ → ℕ → List ℕ → List ℕ → List ℕ → List ℕ → ℕ → ℕ → Asked
asked_in c K W ts ns bs es r w =
    record {
      sets = c.sets;
      ways = c.ways;
      revision = c.revision;
      start = c.start;
      contents = K;
      cells = W;
      tracked = ts;
      lengths = ns;
      accesses = bs;
      edges = es;
      result_room = r;
      working_room = w;
    }

-- the same cache, tracked blocks and graph as document 01's call is handed them, with the least limit and rooms that it accepts
abbrev pub graph_of : Asked → Input
graph_of a =
    record {
      sets = a.sets;
      ways = a.ways;
      revision = a.revision;
      start = a.start;
      limit = 1;
      tracked = a.tracked;
      lengths = a.lengths;
      accesses = a.accesses;
      edges = a.edges;
      result_room = 1;
      working_room = 5184;
    }
