-- What is known before the first access. Of a used cache nothing is known: every way may be filled, and no access is a hit before another has been made. In the first
-- revision the two starts are the same: nothing of the work looks at which was named.
use Rattle.std.specs.Prelude.{Err, None, Ok, Some}
use mathlib.Core.Path.{◌≡◌, refl, ap, ap₂}
use mathlib.Core.Bool.{false, and-false}
use mathlib.Core.List.{List, [], ◌∷◌, ◌++◌}
use Prim.Native.Nat.{ℕ, zero, suc, ◌-◌, ◌≤◌, ◌<◌}
use native.Mathlib.Omega.{arith}
use lib.Dec.{eqb}
use lib.ListN.{length, get_or-replicate}
use Rattle.rules.specs.Answers.{Verdict}
use Rattle.rules.specs.Units.{units}
use Rattle.rules.specs.Contents.{Place, has, Last, find, hits, target_of, last_after}
use Rattle.rules.specs.Input.{Start, cold, warm, Input, cache, input_in, nodes, run_of, edges_of, predecessors}
use Rattle.rules.specs.Filling.{filled_at}
use Rattle.rules.specs.AnyTable.{node_by as node_of, worked_by as worked_of, finished_by as finished_of}
use Rattle.rules.specs.Table.{Work}
use Rattle.rules.specs.Run.{run}
use Rattle.rules.specs.Graph.{Worked, table_at, starts_empty, at_start, enter, last_before, node_last, lasts_to, worked, finished}
use Rattle.rules.specs.Refusals.{reasons, verdict, answered, outcome}
use Rattle.rules.proofs.Bits.{bit_zero}
use Rattle.rules.proofs.Filling.{evenly_at}

-- ---- a used cache

-- a start that is named warm is never taken as empty, and in the first revision none is
pub warm_used : (i : Input) → i.start ≡ warm → starts_empty i ≡ false
warm_used i e = rw e (and-false (eqb i.revision 2))

pub first_used : (i : Input) → i.revision ≡ 1 → starts_empty i ≡ false
first_used i e = rw e

-- then every way of every set may be filled
pub used_filled : (i : Input) → i.ways ≤ 16 → i.sets ≤ 16 → starts_empty i ≡ false → (j : ℕ) → j < i.sets → filled_at (at_start i) j ≡ i.ways
unfolding at_start
used_filled i few few_sets used j l =
    rw (used, evenly_at i.sets i.ways few_sets (omega (arith, few)) j, get_or-replicate i.sets j i.ways 0 l)

-- and before the first access, of node 0, nothing is held and no last block is known: no block is surely hit
pub first_no_hit : (Z : ℕ) (ts : List ℕ) (ls : List Last) (b : ℕ) → hits (target_of Z ts (last_before ls []) b) 0 ≡ false
unfolding last_before target_of find
first_no_hit Z ts ls b = go (find ts b)
  where
    go : (x : Place) → has 0 false x ≡ false
    go (Some j) = bit_zero j
    go None = refl

-- ---- the first revision, from either start
module _ (Z N K : ℕ) (ts ns bs es : List ℕ) (r w : ℕ) where
  abbrev started : Start → Input
  started o = input_in (cache Z N 1 o) K ts ns bs es r w

  lasts_either : (n : ℕ) → lasts_to (started cold) n ≡ lasts_to (started warm) n
  unfolding lasts_to node_last run_of
  lasts_either zero = refl
  lasts_either (suc n) =
      ap (λ (ls : List Last). ls ++ (last_after (last_before ls (predecessors (edges_of es) n)) (run_of (started cold) n) ∷ [])) (lasts_either n)

  worked_either : (n : ℕ) → worked (started cold) n ≡ worked (started warm) n
  unfolding worked_of node_of at_start run_of
  worked_either zero = refl
  worked_either (suc n) =
      ap₂
      (λ (ls : List Last) (d : Worked).
      let ps = predecessors (edges_of es) n in
      let v : Work = run N Z K ts (last_before ls ps) (run_of (started cold) n) (enter K (at_start (started cold)) d ps) in
      record { tables = d.tables ++ (v.table ∷ []); aside = v.aside })
      (lasts_either n) (worked_either n)

  finished_either : finished (started cold) ≡ finished (started warm)
  unfolding finished_of
  finished_either =
      ap (λ (d : Worked). record { table = table_at d (nodes (started cold) - 1); aside = d.aside }) (worked_either (nodes (started cold)))

  -- the answer and the finished table are the same
  pub either_start : (outcome (started cold) ≡ outcome (started warm)) × (finished (started cold) ≡ finished (started warm))
  unfolding outcome verdict reasons
  either_start = (go (verdict (started cold)), finished_either)
    where
      go : (v : Verdict) → answered v (started cold) ≡ answered v (started warm)
      go (Ok tt) = ap (λ (d : Work). Ok (record { states = length d.table; aside = units d.aside })) finished_either
      go (Err why) = refl
