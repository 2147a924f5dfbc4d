-- A graph, along a path (AnyPath), for document 01's tables: each node's table is worth no less than its predecessors' are along its run, so from node to
-- node nothing is lost, whichever edges the path takes, nor where less is known of the last block. A straight run is the graph of one node.
use Rattle.std.specs.Prelude.{None}
use mathlib.Core.Path.{◌≡◌, refl, ap, ◌∙◌}
use mathlib.Core.Bool.{true}
use mathlib.Core.List.{List, [], ◌∷◌}
use Prim.Native.Nat.{ℕ, ◌-◌, ◌*◌, ◌^◌, ◌≤◌, ◌<◌}
use native.Mathlib.Nat.{le_refl, le_trans, mul-le-mul_left}
use native.Mathlib.Omega.{arith}
use lib.ListN.{length, get_or, take, drop}
use lib.Seq.{take-length}
use Rattle.basics.specs.Sums.{sum_over}
use Rattle.rules.specs.declared.State.{State}
use Rattle.rules.specs.declared.Target.{Target}
use Rattle.rules.specs.declared.Filled.{Filled}
use Rattle.rules.specs.Contents.{Last}
use Rattle.rules.specs.Units.{whole}
use Rattle.rules.specs.Input.{Input, nodes, offset, run_of, edges_of, predecessors, joins_to}
use Rattle.rules.specs.AnyTable.{Entries, behind, node_by as node_of, worked_by as worked_of, finished_by as finished_of}
use Rattle.rules.specs.Table.{units_of, begin}
use Rattle.rules.specs.Fold.{states}
use Rattle.rules.specs.Run.{run}
use Rattle.rules.specs.Graph.{table_at, at_start, enter_by, worked_by, finished_by}
use Rattle.rules.specs.Shape.{Every, Aimed, Room, Loose, Shaped}
use Rattle.rules.proofs.Sets.{aimed}
use Rattle.rules.proofs.Table.{Weight, weight_of, worth}
use Rattle.rules.proofs.Step.{ahead}
use Rattle.rules.proofs.Fold.{states_start}
use Rattle.rules.proofs.Run.{states_follow}
use Rattle.rules.proofs.Graph.{Vaguer, start_most}
use Rattle.rules.proofs.Refusals.{Checked}
use Rattle.promises.specs.Paths.{is_path, accesses_of}
use Rattle.promises.proofs.Value.{value, Rises, ahead_rises, value_vaguer, targets_of}
use Rattle.promises.proofs.Accesses.{access_low}
use Rattle.promises.proofs.Folds.{kept_fold}
use Rattle.promises.proofs.Joins.{pairing_above}
use Rattle.promises.proofs.AnyPath.{along, Carries, first_start, first_known, path_covers as path_covers_any}

-- the value along accesses is the weight before them
value_along : (W : Weight) (N : ℕ) (p : List Target) → along (λ x f C m F. ahead N x f C m F) p W ≡ value W N p
unfolding value
value_along W N [] = refl
value_along W N (x ∷ p) = ap {B = Weight} (λ (g : Weight) C m F. ahead N x g C m F) (value_along W N p)

-- an access, a fold and a join lose nothing, to a weight that rises
states_carry : (N Z : ℕ) (ts : List ℕ) → 0 < N → N ≤ 16
    → Carries states N (Aimed Z ts) (Loose N Z ts) weight_of (Rises N Z ts) (λ x f C m F. ahead N x f C m F) ◌≤◌
states_carry N Z ts some few =
    record {
      follows = states_follow N Z ts some few;
      same = le_refl;
      onward = λ a b c l m. le_trans l m;
      times = λ n a b l. mul-le-mul_left n l;
      good_ahead = λ x f aim rises. ahead_rises N Z ts few x aim f rises;
      by_access = λ M x f T aim rises shaped full. access_low N Z ts M x aim some few T shaped full f rises;
      by_fold = λ M f p w rises shaped full. (kept_fold N Z ts M p w).low f rises (shaped, full);
      by_pairing = λ M f S T rises a b full Q left right. pairing_above N Z ts M f rises S T a b full Q left right;
    }

-- a table is worth no less to a weight that is no less
pub worth_more : (N Z : ℕ) (ts : List ℕ) (M : ℕ) (f g : Weight) → ((C m : ℕ) (F : Filled) → Room N Z ts C F → f C m F ≤ g C m F)
    → (T : List State) → Every (Shaped N Z ts M) T → worth f T ≤ worth g T
worth_more N Z ts M f g h [] s = le_refl 0
worth_more N Z ts M f g h (t ∷ T) s =
    omega (arith, mul-le-mul_left (units_of t) (h t.mask t.misses t.filled s.0.0.small), worth_more N Z ts M f g h T s.1)

-- the run of a single node is all accesses
pub whole_run : (i : Input) → Checked i → nodes i ≡ 1 → run_of i 0 ≡ i.accesses
unfolding run_of offset
whole_run i ok e = go i.lengths i.accesses e ok.all_accesses
  where
    go : (ns bs : List ℕ) → length ns ≡ 1 → sum_over (λ n. n) ns ≡ length bs → take (get_or ns 0 0) (drop (sum_over (λ n. n) (take 0 ns)) bs) ≡ bs
    go [] bs l s = absurd (omega arith)
    go (n ∷ []) bs l s = let z : n ≡ length bs = omega arith in rw z (take-length bs)
    go (n ∷ m ∷ ns) bs l s = absurd (omega arith)

module _ (q : Entries) (i : Input) (ok : Checked i) where
  abbrev N : ℕ
  N = i.ways

  -- what the accesses to bs are after, where l was accessed directly before
  abbrev targets : Last → List ℕ → List Target
  targets l bs = targets_of i.sets i.tracked l bs

  -- every path from first node to last leads from the start to the finished table
  pub path_covers : (path : List ℕ) → is_path i path ≡ true → (f : Weight) → Rises N i.sets i.tracked f
      → whole * value f N (targets None (accesses_of i path)) 0 0 (at_start i) ≤ N ^ length (accesses_of i path) * worth f (finished_by q i).table
  path_covers path h f rises =
      rw (← value_along f N (targets None (accesses_of i path)))
      (path_covers_any q i ok (states_carry N i.sets i.tracked ok.some_ways ok.few_ways)
      (states_start N i.sets i.tracked (at_start i) (start_most i ok)) (aimed i.sets i.tracked ok.some_sets ok.few_sets) vague path h f rises)
    where
      -- to the accesses ahead a table is worth no less where less is known of the last block
      vague : (f : Weight) → Rises N i.sets i.tracked f → (M : ℕ) (o p : Last) → Vaguer o p → (bs : List ℕ) (T : List State)
          → Every (Shaped N i.sets i.tracked M) T
          → worth (along (λ x f C m F. ahead N x f C m F) (targets p bs) f) T ≤ worth (along (λ x f C m F. ahead N x f C m F) (targets o bs) f) T
      vague f rises M o p v bs T shaped =
          rw (value_along f N (targets p bs), value_along f N (targets o bs))
          (worth_more N i.sets i.tracked M _ _
          (value_vaguer N i.sets i.tracked ok.few_ways f rises ok.some_sets ok.few_sets o p v bs) T shaped)

  -- ---- one node

  -- so the finished table is what the accesses make of the start
  pub straight : nodes i ≡ 1 → finished_by q i ≡ run N i.sets i.limit i.tracked None i.accesses (record { table = begin (at_start i); aside = 0 })
  unfolding finished_of worked_of node_of
  straight e =
      ap (λ (n : ℕ). let d = worked_by q i n in record { table = table_at d (n - 1); aside = d.aside }) e
      ∙ ap (λ (l : Last). run N i.sets i.limit i.tracked l (run_of i 0) (enter_by (behind (joins_to (edges_of i.edges) 0) q) i.limit (at_start i) (worked_by q i 0) (predecessors (edges_of i.edges) 0)))
      (first_known i ok)
      ∙ ap (run N i.sets i.limit i.tracked None (run_of i 0)) (first_start states q (behind (joins_to (edges_of i.edges) 0) q) i ok)
      ∙ ap (λ (bs : List ℕ). run N i.sets i.limit i.tracked None bs (record { table = begin (at_start i); aside = 0 })) (whole_run i ok e)
