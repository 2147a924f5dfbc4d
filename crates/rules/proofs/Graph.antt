-- Every node's table is a table: for an accepted input, by induction over the nodes (Nodes, AnyTable). The finished table is one, of as many misses as
-- there are accesses at most, so that the questions accept it. And the set-aside count has not passed WHOLE.
use Rattle.std.specs.Prelude.{None, Some}
use mathlib.Core.Path.{◌≡◌, refl, sym, ap, ◌∙◌}
use mathlib.Core.Bool.{Bool, true, false, cond, true≢false}
use mathlib.Core.List.{List, [], ◌∷◌, ◌++◌}
use mathlib.Core.Logic.{◌⊎◌, inl, inr}
use Prim.Native.Nat.{ℕ, zero, suc, ◌+◌, ◌-◌, ◌≤◌, ◌<◌, zero-le}
use native.Mathlib.Nat.{le_refl, le_trans, eq-or-lt_of_le, le_of_suc-le-suc, not-suc-le-zero}
use native.Mathlib.Omega.{arith}
use lib.Dec.{eqb}
use lib.ListN.{length, get_or, length-append, get_or-append}
use lib.Seq.{get_or_at}
use borrow.Author.Tests.{eqb-true}
use Rattle.rules.specs.Units.{whole}
use Rattle.rules.specs.Contents.{Last, agreed, among, target_of}
use Rattle.rules.specs.Input.{Input, nodes, offset, run_of, edges_of, predecessors, joins_to}
use Rattle.rules.specs.Filling.{Filled, filled_at}
use Rattle.rules.specs.AnyTable.{Entries, later, behind, join_all_by as join_all_of, enter_by as enter_of, run as run_of_any, node_by as node_of, worked_by as worked_of}
use Rattle.rules.specs.Table.{State, initial, listing, Work}
use Rattle.rules.specs.Fold.{states}
use Rattle.rules.specs.Run.{run}
use Rattle.rules.specs.Graph.{Worked, table_at, last_at, join_all_by, starts_empty, at_start, enter_by, agree_all, last_before, node_last, lasts_to, worked_by, finished_by}
use Rattle.rules.specs.Shape.{Loose, Table}
use Rattle.rules.proofs.Refusals.{Checked}
use Rattle.rules.proofs.Filling.{evenly_most}
use Rattle.rules.proofs.Sets.{aimed}
pub use Rattle.rules.proofs.Nodes.{first_and_others, first_or_other, offset_next, offset_rises, offset_most, run_within, run_long, each_node}
use Rattle.rules.proofs.AnyTable.{Starts, sound_enter, node_table as node_table_of, table_stays as table_stays_any, finished_table as finished_table_any, sound_node, node_sound, sound_so_far}
use Rattle.rules.proofs.Fold.{folded_aside, states_keep, states_start}
use Rattle.rules.proofs.Run.{advance_aside, table_wider, states_follow}

-- ---- the nodes that are worked, with any pairings q

-- node j's table
abbrev pub node_table : Entries → Input → ℕ → List State
node_table q i j = node_table_of states q i j

-- its last block, where it is known
abbrev pub last_of : Input → ℕ → Last
last_of i j = node_last i j (lasts_to i j)

-- it stays as it was made
pub table_stays : (q : Entries) (i : Input) (n j : ℕ) → j < n → table_at (worked_by q i n) j ≡ node_table q i j
table_stays q i n j l = table_stays_any states q i n j l

-- and so does its last block
length_lasts : (i : Input) (n : ℕ) → length (lasts_to i n) ≡ n
unfolding lasts_to
length_lasts i zero = refl
length_lasts i (suc n) = omega (arith, length-append (lasts_to i n) (last_of i n ∷ []), length_lasts i n)

pub last_stays : (i : Input) (n j : ℕ) → j < n → last_at (lasts_to i n) j ≡ last_of i j
unfolding lasts_to
last_stays i zero j l = absurd (not-suc-le-zero l)
last_stays i (suc n) j l = go (eq-or-lt_of_le (le_of_suc-le-suc l)) (last_stays i n j)
  where
    go : (j ≡ n) ⊎ (j < n) → (j < n → last_at (lasts_to i n) j ≡ last_of i j)
        → get_or (lasts_to i n ++ (last_of i n ∷ [])) j None ≡ last_of i j
    go (inl e) ih = rw e (get_or_at (lasts_to i n) (last_of i n) [] None n (length_lasts i n))
    go (inr k) ih = get_or-append (lasts_to i n) (last_of i n ∷ []) None j (omega (arith, length_lasts i n)) ∙ ih k

pub finished_table : (q : Entries) (i : Input) → 0 < nodes i → (finished_by q i).table ≡ node_table q i (nodes i - 1)
finished_table q i h = finished_table_any states q i h

-- ---- what each starts from

module _ (N Z : ℕ) (ts : List ℕ) (K : ℕ) (some : 0 < N) (few : N ≤ 16) (room : 0 < K) (M : ℕ) (d : Worked) where
  pub table_enter : (q : Entries) (F : Filled) → ((j : ℕ) → filled_at F j ≤ N) → (is : List ℕ) → ((j : ℕ) → among is j ≡ true → Table N Z ts K M (table_at d j))
      → Table N Z ts K M (enter_by q K F d is).table
  table_enter q F most is h = sound_enter (states_keep N Z ts) K room M d q (initial F) (states_start N Z ts F most) is h

-- ---- the last block

-- k says no more than l: nothing, or the same
abbrev pub Vaguer : Last → Last → Type 0
Vaguer k l = (k ≡ None) ⊎ (k ≡ l)

pub vaguer_trans : (j k l : Last) → Vaguer j k → Vaguer k l → Vaguer j l
vaguer_trans j k l (inl e) q = inl e
vaguer_trans j k l (inr e) (inl q) = inl (e ∙ q)
vaguer_trans j k l (inr e) (inr q) = inr (e ∙ q)

vaguer_both : (k l : Last) → Vaguer (agreed k l) k × Vaguer (agreed k l) l
vaguer_both (Some a) (Some b) = go (eqb b a) refl
  where
    go : (t : Bool) → eqb b a ≡ t → Vaguer (cond t (Some a) None) (Some a) × Vaguer (cond t (Some a) None) (Some b)
    go true e = (inr refl, inr (ap Some (sym (eqb-true b a e))))
    go false e = (inl refl, inl refl)
vaguer_both (Some a) None = (inl refl, inl refl)
vaguer_both None l = (inl refl, inl refl)

module _ (ls : List Last) where
  agree_all_lem : (is : List ℕ) (l : Last) → Vaguer (agree_all ls is l) l × ((j : ℕ) → among is j ≡ true → Vaguer (agree_all ls is l) (last_at ls j))
  unfolding agree_all
  agree_all_lem [] l = (inr refl, λ j e. absurd (true≢false (sym e)))
  agree_all_lem (a ∷ is) l =
      let (x, y) = vaguer_both l (last_at ls a) in
      let (z, rest) = agree_all_lem is (agreed l (last_at ls a)) in (
        vaguer_trans _ _ _ z x,
        first_or_other (λ j. Vaguer (agree_all ls is (agreed l (last_at ls a))) (last_at ls j)) a is (vaguer_trans _ _ _ z y) rest,
      )

  -- what is known before a node, each of its predecessors knows
  pub last_before_lem : (is : List ℕ) (j : ℕ) → among is j ≡ true → Vaguer (last_before ls is) (last_at ls j)
  unfolding last_before
  last_before_lem [] j e = absurd (true≢false (sym e))
  last_before_lem (a ∷ is) j e =
      let (z, rest) = agree_all_lem is (last_at ls a) in
      first_or_other (λ j. Vaguer (agree_all ls is (last_at ls a)) (last_at ls j)) a is z rest j e

-- ---- the set-aside count, which stops at WHOLE

module _ (K : ℕ) (d : Worked) where
  aside_join_all : (q : Entries) (is : List ℕ) (w : Work) → w.aside ≤ whole → (join_all_by q K d is w).aside ≤ whole
  unfolding join_all_of
  aside_join_all q [] w h = h
  aside_join_all q (a ∷ is) w h = aside_join_all (later q) is _ (folded_aside K _ h)

  pub aside_enter : (q : Entries) (F : Filled) (is : List ℕ) → d.aside ≤ whole → (enter_by q K F d is).aside ≤ whole
  unfolding enter_of
  aside_enter q F [] h = h
  aside_enter q F (a ∷ is) h = aside_join_all q is _ h

aside_run : (N Z K : ℕ) (ts : List ℕ) (l : Last) (bs : List ℕ) (w : Work) → w.aside ≤ whole
    → (run N Z K ts l bs w).aside ≤ whole
unfolding run_of_any
aside_run N Z K ts l [] w h = h
aside_run N Z K ts l (b ∷ bs) w h = aside_run N Z K ts (Some b) bs _ (advance_aside N K (target_of Z ts l b) w)

pub aside_worked : (q : Entries) (i : Input) (n : ℕ) → (worked_by q i n).aside ≤ whole
unfolding worked_of node_of
aside_worked q i zero = omega arith
aside_worked q i (suc n) =
    aside_run i.ways i.sets i.limit i.tracked _ (run_of i n) _
    (aside_enter i.limit (worked_by q i n) (behind (joins_to (edges_of i.edges) n) q) (at_start i) (predecessors (edges_of i.edges) n) (aside_worked q i n))

-- ---- the start

-- no more ways may be filled than there are
pub start_most : (i : Input) → Checked i → (j : ℕ) → filled_at (at_start i) j ≤ i.ways
unfolding at_start
start_most i ok j =
    le_trans (evenly_most i.sets _ ok.few_sets (omega (arith, ok.few_ways, most (starts_empty i))) j) (most (starts_empty i))
  where
    most : (b : Bool) → cond b 0 i.ways ≤ i.ways
    most true = zero-le
    most false = le_refl i.ways

-- ---- every node

module _ (q : Entries) (i : Input) (ok : Checked i) where
  begins : Starts listing (Loose i.ways i.sets i.tracked) (initial (at_start i))
  begins = states_start i.ways i.sets i.tracked (at_start i) (start_most i ok)

  abbrev pub NodeTable : ℕ → ℕ → Type 0
  NodeTable M j = Table i.ways i.sets i.tracked i.limit M (node_table q i j)

  -- a node whose predecessors' tables are tables of at most M misses
  pub table_node : (M n : ℕ) → n < nodes i → ((a : ℕ) → among (predecessors (edges_of i.edges) n) a ≡ true → NodeTable M a)
      → NodeTable (get_or i.lengths n 0 + M) n
  table_node = sound_node q i ok (states_follow i.ways i.sets i.tracked ok.some_ways ok.few_ways) begins (aimed i.sets i.tracked ok.some_sets ok.few_sets)

  -- the misses of the first n nodes are at most the accesses of their runs
  pub every_node : (n : ℕ) → n ≤ nodes i → (j : ℕ) → j < n → NodeTable (offset i.lengths n) j
  every_node n l j k =
      table_wider _ _ _ _ _ _ (node_table q i j) (offset_rises i.lengths (suc j) n k)
      (sound_so_far q i ok (states_follow i.ways i.sets i.tracked ok.some_ways ok.few_ways) begins (aimed i.sets i.tracked ok.some_sets ok.few_sets) j (omega arith))

  -- in all, at most the accesses
  pub node_table_lem : (j : ℕ) → j < nodes i → NodeTable (length i.accesses) j
  node_table_lem = node_sound q i ok (states_follow i.ways i.sets i.tracked ok.some_ways ok.few_ways) begins (aimed i.sets i.tracked ok.some_sets ok.few_sets)
