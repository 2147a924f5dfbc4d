-- What the numbers mean, in order: ways, K, tracked count, tracked blocks, node count, run lengths, access count, accesses, edge count, edges.
use Rattle.std.specs.Prelude.{Bool, false, ◌&&◌, List, [], ◌∷◌, ℕ, ◌*◌, eqb, leb, length, get_or, take, drop}
use Rattle.rules.specs.declared.Cache.{Cache}
use Rattle.rules.specs.declared.Start.TheVariants.{Cold as cold}
use Rattle.rules.specs.Input.{Input, cache, input_of}
use Rattle.curve_numbers.specs.declared.Choice.{Choice}

-- some numbers from the front of a list: whether there were enough, they, and what is left
pub record Part : Type 0 where
  pub enough : Bool
  pub numbers : List ℕ
  pub rest : List ℕ

-- a count, and `width` numbers for each that it counts
abbrev pub counted : ℕ → List ℕ → Part
counted width [] = record { enough = false; numbers = []; rest = [] }
counted width (k ∷ ns) = record { enough = leb (k * width) (length ns); numbers = take (k * width) ns; rest = drop (k * width) ns }

-- the tracked blocks, behind the ways and the state limit: the first of four lists, one behind the other
abbrev pub tracked_part : List ℕ → Part
tracked_part ns = counted 1 (drop 2 ns)

-- the run lengths, behind the tracked blocks
abbrev pub runs_part : List ℕ → Part
runs_part ns = counted 1 (tracked_part ns).rest

-- the accesses, behind the run lengths
abbrev pub accesses_part : List ℕ → Part
accesses_part ns = counted 1 (runs_part ns).rest

-- the edges, two numbers each, behind the accesses
abbrev pub edges_part : List ℕ → Part
edges_part ns = counted 2 (accesses_part ns).rest

-- no number is missing and none is left over
unfoldable pub complete : List ℕ → Bool
complete ns =
    leb 2 (length ns) && (tracked_part ns).enough && (runs_part ns).enough && (accesses_part ns).enough && (edges_part ns).enough
    && eqb (length (edges_part ns).rest) 0

-- what is chosen of document 01's cache: one set, the first revision, found empty
abbrev pub plain : Choice
plain = record { sets = 1; revision = 1; start = cold }

-- the cache, as chosen beside its ways
abbrev pub cache_from : Choice → List ℕ → Cache
cache_from ch ns = cache ch.sets (get_or ns 0 0) ch.revision ch.start

-- what a graph call is handed
unfoldable pub input_from : Choice → List ℕ → Input
input_from ch ns =
    input_of (cache_from ch ns) (get_or ns 1 0) (tracked_part ns).numbers (runs_part ns).numbers (accesses_part ns).numbers (edges_part ns).numbers
