-- What comes in, as the work takes it: what it needs does not depend on the rooms, where a node's run stands in the access list, and a property of each predecessor.
use mathlib.Core.Path.{◌≡◌, refl, ap₂}
use mathlib.Core.Bool.{true}
use mathlib.Core.List.{List, [], ◌∷◌}
use Prim.Native.Nat.{ℕ, ◌+◌, ◌-◌}
use native.Mathlib.Nat.{le_refl}
use native.Mathlib.Omega.{arith}
use lib.ListN.{get_or, take, drop}
use Rattle.rules.specs.declared.Cache.{Cache}
use Rattle.rules.specs.Contents.{among}
use Rattle.rules.specs.Input.{Input, input_in, input_of, offset, run_of}
use Rattle.rules.specs.Shape.{Every}
use Rattle.rules.proofs.Nodes.{first_and_others}
use Rattle.rules.proofs.Refusals.{Checked}

pub checked_without : (c : Cache) (K : ℕ) (ts ns bs es : List ℕ) (result work : ℕ) → Checked (input_in c K ts ns bs es result work) → Checked (input_of c K ts ns bs es)
checked_without c K ts ns bs es result work ok =
    record {
      some_ways = ok.some_ways;
      few_ways = ok.few_ways;
      known_sets = ok.known_sets;
      some_sets = ok.some_sets;
      few_sets = ok.few_sets;
      low_revision = ok.low_revision;
      high_revision = ok.high_revision;
      some_states = ok.some_states;
      few_states = ok.few_states;
      few_tracked = ok.few_tracked;
      distinct = ok.distinct;
      few_accesses = ok.few_accesses;
      some_nodes = ok.some_nodes;
      few_nodes = ok.few_nodes;
      all_accesses = ok.all_accesses;
      edges_kept_lem = ok.edges_kept_lem;
      result_room_fact = le_refl K;
      working_room_fact = le_refl 5184;
    }

pub offset_start : (lengths : List ℕ) → 0 ≡ offset lengths 0
unfolding offset
offset_start lengths = refl

-- a node's run is the stretch of the access list that starts behind the runs before
pub run_part : (i : Input) (j from : ℕ) → from ≡ offset i.lengths j → take (from + get_or i.lengths j 0 - from) (drop from i.accesses) ≡ run_of i j
unfolding run_of
run_part i j from e = ap₂ (λ (n o : ℕ). take n (drop o i.accesses)) long e
  where
    long : from + get_or i.lengths j 0 - from ≡ get_or i.lengths j 0
    long = omega arith

pub every_among : (P : ℕ → Type 0) (ps : List ℕ) → ((p : ℕ) → among ps p ≡ true → P p) → Every P ps
every_among P [] h = tt
every_among P (q ∷ ps) h = let (a, b) = first_and_others P q ps h in (a, every_among P ps b)
