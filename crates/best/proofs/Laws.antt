-- The laws of every kind of table (Listings, Pairings, AnyTable, Nodes), for the best case's.
use Rattle.std.specs.Prelude.{None}
use mathlib.Core.Path.{◌≡◌, refl}
use mathlib.Core.Bool.{true}
use mathlib.Core.List.{List, [], ◌∷◌, ◌++◌, flat_map}
use Prim.Native.Nat.{ℕ, suc, ◌+◌, ◌-◌, ◌*◌, ◌≤◌, ◌<◌}
use native.Mathlib.Omega.{arith}
use lib.ListN.{length}
use Rattle.basics.specs.Sums.{sum_over}
use Rattle.rules.specs.declared.BestState.{BestState}
use Rattle.rules.specs.declared.Pair.{Pair}
use Rattle.rules.specs.declared.Target.{Target}
use Rattle.rules.specs.Contents.{among, size, shared, target_of, Last}
use Rattle.rules.specs.Input.{Input, nodes, offset}
use Rattle.rules.specs.AnyTable.{no_pairings, access as access_any_lem, advance as advance_any, run as run_any}
use Rattle.rules.specs.Best.{successors as successors_of, miss as miss_of, listing, kind}
use Rattle.rules.specs.Shape.{Every, Aimed}
use Rattle.rules.proofs.Lists.{every_weaker}
use Rattle.rules.proofs.Ordered.{InOrder, in_order_rises, rises_in_order}
use Rattle.rules.proofs.Sets.{aimed}
use Rattle.rules.proofs.Nodes.{offset_rises}
use Rattle.rules.proofs.Refusals.{Checked}
use Rattle.rules.proofs.Listings.{length_present as length_present_any, length_present_append as length_present_append_any, length_follow}
use Rattle.rules.proofs.AnyTable.{first_of as first_of_any, second_of as second_of_any, others_of as others_of_any, meet_of as meet_of_any, length_folded as length_folded_any, rising_join as rising_join_any, length_join as length_join_any, rising_access as rising_access_any, sound_wider, sound_enter, sound_advance, sound_run, node_table as node_table_of, table_stays as table_stays_any, finished_table as finished_table_any, sound_so_far, node_sound}
use Rattle.rules.proofs.Best.{best_orders, best_lawful, length_after as length_successors, best_access_room, best_keep, best_start, best_follow}
use Rattle.best.specs.Tables.{order, rising, present, begins, Work, Worked, table_at, access, folded, advance, run, join, enter, worked, finished, successors}
use Rattle.best.specs.Working.{Table}

-- ---- adding

abbrev pub Rising : List BestState → Type 0
Rising T = InOrder order T

pub rising_is : (T : List BestState) → Rising T → rising T ≡ true
rising_is T h = in_order_rises order T h

pub rising_so : (T : List BestState) → rising T ≡ true → Rising T
rising_so T h = rises_in_order order best_orders.onward T h

pub length_present : (S : List BestState) → length (present S) ≤ length S
length_present S = length_present_any listing S

pub length_present_append : (S T : List BestState) → length (present (S ++ T)) ≡ length (present S) + length (present T)
length_present_append S T = length_present_append_any listing S T

-- ---- folds

module _ (p : Pair) (T : List BestState) where
  -- the two states, the others, and what the two become
  abbrev pub first_of : BestState
  first_of = first_of_any kind p T

  abbrev pub second_of : BestState
  second_of = second_of_any kind p T

  abbrev pub others_of : List BestState
  others_of = others_of_any kind p T

  abbrev pub meet_of : BestState
  meet_of = meet_of_any kind p T

pub length_folded : (K : ℕ) (w : Work) → 0 < K → length (folded K w).table ≤ K
length_folded K w h = length_folded_any kind K w h

-- ---- joins

pub rising_join : (S T : List BestState) → Rising (join S T)
rising_join S T = rising_join_any kind best_lawful S T

pub length_join : (S T : List BestState) → length (join S T) ≤ length S + length T
length_join S T = length_join_any kind S T

-- ---- an access

pub rising_access : (N : ℕ) (x : Target) (T : List BestState) → Rising (access N x T)
rising_access N x T = rising_access_any kind best_lawful (successors N x) T

-- at most N + 1 for each state
pub length_access : (N : ℕ) (x : Target) (T : List BestState) → 0 < N → Every (λ s. size (shared s.mask x.mates) ≤ N) T
    → length (present (flat_map (successors N x) T)) ≤ length T * suc N
length_access N x T some h =
    length_follow listing (suc N) (successors N x) T
    (every_weaker (λ s. size (shared s.mask x.mates) ≤ N) (λ s. length (present (successors N x s)) ≤ suc N) (λ s r. length_successors N x s some r) T h)

pub access_length : (N Z : ℕ) (ts : List ℕ) (K M : ℕ) (x : Target) (T : List BestState) → 0 < N → N ≤ 16 → Aimed Z ts x → Table N Z ts K M T
    → length (access N x T) ≤ 17 * K
access_length N Z ts K M x T some few aim t = (best_access_room N Z ts K M x T some few aim t).1

-- nothing is set aside
pub none_aside : (T : List BestState) → sum_over (λ s. 0) T ≡ 0
none_aside [] = refl
none_aside (s ∷ T) = omega (arith, none_aside T)

-- the block accessed directly before changes nothing
pub run_last : (N Z K : ℕ) (ts : List ℕ) (l : Last) (bs : List ℕ) (w : Work) → run N Z K ts l bs w ≡ run N Z K ts None bs w
unfolding run_any advance_any access_any_lem successors_of miss_of target_of
run_last N Z K ts l [] w = refl
run_last N Z K ts l (b ∷ bs) w = refl

-- ---- tables

module _ (N Z : ℕ) (ts : List ℕ) (few : N ≤ 16) where
  pub table_wider : (K M L : ℕ) (T : List BestState) → M ≤ L → Table N Z ts K M T → Table N Z ts K L T
  table_wider K M L T l t = sound_wider (best_keep N Z ts few) K M L T l t

  pub table_advance : (K : ℕ) → 0 < N → 0 < K → (M : ℕ) (x : Target) (w : Work) → Aimed Z ts x → Table N Z ts K M w.table
      → Table N Z ts K (suc M) (advance N K x w).table
  table_advance K some room M x w l t = sound_advance (best_follow N Z ts some few) K room M x w l t

  pub table_run : (K : ℕ) → 0 < N → 0 < Z → Z ≤ 16 → 0 < K → (M : ℕ) (l : Last) (bs : List ℕ) (w : Work) → Table N Z ts K M w.table
      → Table N Z ts K (length bs + M) (run N Z K ts l bs w).table
  table_run K some sets few_sets room M l bs w t = sound_run (best_follow N Z ts some few) K room Z ts (aimed Z ts sets few_sets) M l bs w t

  pub table_enter : (K : ℕ) → 0 < K → (M : ℕ) (d : Worked) (is : List ℕ) → ((j : ℕ) → among is j ≡ true → Table N Z ts K M (table_at d j))
      → Table N Z ts K M (enter K begins d is).table
  table_enter K room M d is h = sound_enter (best_keep N Z ts few) K room M d no_pairings begins (best_start N Z ts few) is h

-- ---- nodes

abbrev pub node_table : Input → ℕ → List BestState
node_table i j = node_table_of kind no_pairings i j

pub table_stays : (i : Input) (n j : ℕ) → j < n → table_at (worked i n) j ≡ node_table i j
table_stays i n j l = table_stays_any kind no_pairings i n j l

pub finished_table : (i : Input) → 0 < nodes i → (finished i).table ≡ node_table i (nodes i - 1)
finished_table i h = finished_table_any kind no_pairings i h

module _ (i : Input) (ok : Checked i) where
  -- the hits and misses of the first n nodes are at most the accesses of their runs
  pub every_node : (n : ℕ) → n ≤ nodes i → (j : ℕ) → j < n → Table i.ways i.sets i.tracked i.limit (offset i.lengths n) (node_table i j)
  every_node n l j k =
      table_wider i.ways i.sets i.tracked ok.few_ways i.limit _ _ (node_table i j) (offset_rises i.lengths (suc j) n k)
      (sound_so_far no_pairings i ok (best_follow i.ways i.sets i.tracked ok.some_ways ok.few_ways) (best_start i.ways i.sets i.tracked ok.few_ways)
      (aimed i.sets i.tracked ok.some_sets ok.few_sets) j (omega arith))

  pub node_table_lem : (j : ℕ) → j < nodes i → Table i.ways i.sets i.tracked i.limit (length i.accesses) (node_table i j)
  node_table_lem =
      node_sound no_pairings i ok (best_follow i.ways i.sets i.tracked ok.some_ways ok.few_ways) (best_start i.ways i.sets i.tracked ok.few_ways)
      (aimed i.sets i.tracked ok.some_sets ok.few_sets)
