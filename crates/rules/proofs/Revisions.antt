-- In the first revision every state of every table says that all ways may be filled: N for each set and 0 beyond them. So what a miss can
-- evict are the held blocks of its set, and no access, fold or join changes a filled number.
use Rattle.std.specs.Prelude.{Some}
use mathlib.Core.Path.{◌≡◌, refl, sym, ap, ◌∙◌}
use mathlib.Core.Logic.{◌≢◌, ◌⊎◌, inl, inr}
use mathlib.Core.Bool.{Bool, true, false, cond}
use mathlib.Core.List.{List, [], ◌∷◌, ◌++◌, map, flat_map}
use Prim.Native.Nat.{ℕ, zero, suc, ◌-◌, ◌*◌, ◌/◌, ◌%◌, ◌≤◌, ◌<◌}
use native.Mathlib.Nat.{le_of_eq, mod-lt}
use native.Mathlib.Omega.{arith}
use lib.ListN.{length, get_or-replicate}
use Rattle.rules.specs.declared.Pair.{Pair}
use Rattle.rules.specs.Units.{more}
use Rattle.rules.specs.Contents.{places, Target, Last, among, bit, hits, without, shared, held, size, target_of}
use Rattle.rules.specs.Filling.{Filled, filled_at, evenly, fill_one}
use Rattle.rules.specs.Ordered.{remove}
use Rattle.rules.specs.AnyTable.{access as access_of, fold_at as fold_at_of, advance as advance_of, run as run_of_any, paired as paired_of, join as join_of, no_pairing, no_pairings, join_all_by as join_all_of, enter_by as enter_of, node_by as node_of}
use Rattle.rules.specs.Table.{State, units_of, no_state, total, state_at, Work}
use Rattle.rules.specs.Step.{at_risk, missed, rest_of, miss, successors, access}
use Rattle.rules.specs.Fold.{meet, fold_at, folded}
use Rattle.rules.specs.Join.{Match, matched, from_front, join}
use Rattle.rules.specs.Run.{run}
use Rattle.rules.specs.Input.{Input, nodes, run_of, edges_of, predecessors}
use Rattle.rules.specs.Graph.{Worked, table_at, join_all, at_start, enter, worked, finished}
use Rattle.rules.specs.Shape.{Every, Table}
use Rattle.rules.proofs.Lists.{every_append, every_map, every_flat_map, every_weaker, every_remove, every_at}
use Rattle.rules.proofs.Contents.{every_held}
use Rattle.rules.proofs.Filling.{no_more, evenly_at, evenly_fullest, evenly_none}
use Rattle.rules.proofs.Sets.{risk_set}
use Rattle.rules.proofs.Table.{every_add}
use Rattle.rules.proofs.Fold.{first_of, second_of, others_of, folded_keeps, states_keep}
use Rattle.rules.proofs.Join.{front_uses}
use Rattle.rules.proofs.AnyTable.{sound_join}
use Rattle.rules.proofs.Refusals.{Checked, predecessor_lower}
use Rattle.rules.proofs.Graph.{node_table, table_stays, finished_table, first_and_others, each_node, node_table_lem}

module _ (N Z : ℕ) (few : N ≤ 16) (few_sets : Z ≤ 16) where
  -- all of them may be
  abbrev all : Filled
  all = evenly Z N

  abbrev pub Full : State → Type 0
  Full s = s.filled ≡ evenly Z N

  all_at : (j : ℕ) → j < Z → filled_at all j ≡ N
  all_at j l = evenly_at Z N few_sets (omega arith) j ∙ get_or-replicate Z j N 0 l

  -- ---- an access

  module _ (x : Target) (one : x.set < Z) where
    -- what can be evicted are the held blocks of the set
    pub full_risk : (C : ℕ) → at_risk N x all C ≡ shared C x.mates
    full_risk C = risk_set N x all C (le_of_eq (sym (all_at x.set one)))

    pub full_more : fill_one N x.set all ≡ all
    full_more = no_more N few x.set (omega arith) all (le_of_eq (sym (all_at x.set one)))

    full_missed : (s : State) (C u : ℕ) → Full s → units_of (missed N x s C u) ≢ 0 → Full (missed N x s C u)
    full_missed s C u f n = ap (fill_one N x.set) f ∙ full_more

    full_successors : (s : State) → Full s → Every (λ t. units_of t ≢ 0 → Full t) (successors N x s)
    unfolding successors miss
    full_successors s f = go (hits x s.mask)
      where
        E : ℕ
        E = at_risk N x s.filled s.mask

        q : ℕ
        q = units_of s / N

        lost : List State
        lost = map (λ e. missed N x s (without s.mask e) q) (held E)

        go : (a : Bool)
            → Every (λ t. units_of t ≢ 0 → Full t)
            (cond a (s ∷ []) (lost ++ missed N x s s.mask ((N - size E) * q) ∷ missed N x s (rest_of s.mask E) (units_of s % N) ∷ []))
        go true = ((λ n. f), tt)
        go false =
            every_append (λ t. units_of t ≢ 0 → Full t) lost
            (missed N x s s.mask ((N - size E) * q) ∷ missed N x s (rest_of s.mask E) (units_of s % N) ∷ [])
            (every_map (λ e. (e < places) × (bit E e ≡ true)) (λ t. units_of t ≢ 0 → Full t) (λ e. missed N x s (without s.mask e) q)
            (λ e p. full_missed s (without s.mask e) q f) (held E) (every_held E))
            (full_missed s s.mask ((N - size E) * q) f, (full_missed s (rest_of s.mask E) (units_of s % N) f, tt))

    full_access : (T : List State) → Every Full T → Every Full (access N x T)
    unfolding access_of
    full_access T h =
        every_add Full (λ t s f. f) (flat_map (successors N x) T) []
        (every_flat_map Full (λ t. units_of t ≢ 0 → Full t) (successors N x) full_successors T h) tt

  -- ---- a fold, of any two places

  -- a state, or none
  abbrev Known : State → Type 0
  Known s = Full s ⊎ (s ≡ no_state)

  known_at : (j : ℕ) (T : List State) → Every Full T → Known (state_at T j)
  known_at j T h = every_at Known no_state (inr refl) j T (every_weaker Full Known (λ s f. inl f) T h)

  -- the larger numbers of two are theirs, unless there are none
  full_meet : (s t : State) (u : ℕ) → Known s → Known t → (s ≡ no_state → t ≡ no_state → u ≡ 0) → u ≢ 0 → Full (meet s t u)
  full_meet s t u (inl a) (inl b) none n = rw (a, b) (evenly_fullest Z N few_sets (omega arith))
  full_meet s t u (inl a) (inr b) none n = rw (a, b) (evenly_none Z N few_sets (omega arith)).0
  full_meet s t u (inr a) (inl b) none n = rw (a, b) (evenly_none Z N few_sets (omega arith)).1
  full_meet s t u (inr a) (inr b) none n = absurd (n (none a b))

  full_fold : (p : Pair) (w : Work) → Every Full w.table → Every Full (fold_at p w).table
  unfolding fold_at_of more
  full_fold p w h =
      every_add Full (λ t s f. f) _ (others_of p w.table) (
        full_meet (first_of p w.table) (second_of p w.table) _ (known_at p.fewest w.table h) (known_at p.partner (remove p.fewest w.table) out)
            (λ a b. rw (a, b)),
        tt,
      )
      (every_remove Full p.partner (remove p.fewest w.table) out)
    where
      out : Every Full (remove p.fewest w.table)
      out = every_remove Full p.fewest w.table h

  full_folded : (K : ℕ) (w : Work) → Every Full w.table → Every Full (folded K w).table
  full_folded K w h = folded_keeps (λ v. Every Full v.table) full_fold K w h

  -- ---- a run, and a join

  full_run : (K : ℕ) (ts : List ℕ) → 0 < Z → (l : Last) (bs : List ℕ) (w : Work) → Every Full w.table → Every Full (run N Z K ts l bs w).table
  unfolding run_of_any advance_of target_of
  full_run K ts sets l [] w h = h
  full_run K ts sets l (b ∷ bs) w h =
      full_run K ts sets (Some b) bs _ (full_folded K _ (full_access (target_of Z ts l b) (mod-lt b sets) w.table h))

  full_join : (S T : List State) → total S ≡ total T → Every Full S → Every Full T → Every Full (join S T)
  unfolding join_of paired_of
  full_join S T e a b =
      let (l, r) = front_uses S T e in
      every_add Full (λ t s f. f) (map (matched S T) (from_front S T)) [] (each (from_front S T) l.exist r.exist) tt
    where
      there : (U : List State) (j : ℕ) → j < length U → Every Full U → Full (state_at U j)
      there [] j k h = absurd (omega arith)
      there (s ∷ U) zero k h = h.0
      there (s ∷ U) (suc j) k h = there U j (omega arith) h.1

      each : (P : List Match) → Every (λ m. m.left < length S) P → Every (λ m. m.right < length T) P
          → Every (λ t. units_of t ≢ 0 → Full t) (map (matched S T) P)
      each [] l r = tt
      each (m ∷ P) l r =
          ((λ n. rw (there S m.left l.0 a, there T m.right r.0 b) (evenly_fullest Z N few_sets (omega arith))), each P l.1 r.1)

-- ---- every node

module _ (i : Input) (ok : Checked i) (first : i.revision ≡ 1) where
  abbrev N : ℕ
  N = i.ways

  abbrev Z : ℕ
  Z = i.sets

  abbrev AllFull : List State → Type 0
  AllFull T = Every (Full N Z ok.few_ways ok.few_sets) T

  module _ (K : ℕ) (room : 0 < K) (M : ℕ) (d : Worked) where
    -- a table whose states are all so
    abbrev Good : List State → Type 0
    Good T = Table N Z i.tracked K M T × AllFull T

    full_join_all : (is : List ℕ) (w : Work) → ((j : ℕ) → among is j ≡ true → Good (table_at d j)) → Good w.table → AllFull (join_all K d is w).table
    unfolding join_all_of
    full_join_all [] w h g = g.1
    full_join_all (a ∷ is) w h g =
        let (p, rest) = first_and_others (λ j. Good (table_at d j)) a is h in
        full_join_all is _ rest (
          sound_join (states_keep N Z i.tracked) K room M no_pairing w (table_at d a) g.0 p.0,
          full_folded N Z ok.few_ways ok.few_sets K _
              (full_join N Z ok.few_ways ok.few_sets w.table (table_at d a) (g.0.full ∙ sym p.0.full) g.1 p.1),
        )

    full_enter : (is : List ℕ) → ((j : ℕ) → among is j ≡ true → Good (table_at d j)) → AllFull (enter K (at_start i) d is).table
    unfolding enter_of at_start
    full_enter [] h = (rw first, tt)
    full_enter (a ∷ is) h =
        let (p, rest) = first_and_others (λ j. Good (table_at d j)) a is h in
        full_join_all is _ rest p

  -- the finished table too
  pub finished_full : AllFull (finished i).table
  unfolding node_of
  finished_full =
      rw (finished_table no_pairings i ok.some_nodes)
      (each_node i ok (λ n. AllFull (node_table no_pairings i n)) step (nodes i - 1) (omega (arith, ok.some_nodes)))
    where
      step : (n : ℕ) → n < nodes i → ((a : ℕ) → among (predecessors (edges_of i.edges) n) a ≡ true → AllFull (node_table no_pairings i a)) → AllFull (node_table no_pairings i n)
      step n l h =
          full_run N Z ok.few_ways ok.few_sets i.limit i.tracked ok.some_sets _ (run_of i n) _
          (full_enter i.limit ok.some_states (length i.accesses) (worked i n) (predecessors (edges_of i.edges) n)
          (λ a e. let a<n = (predecessor_lower i ok a n e).0 in
          rw (table_stays no_pairings i n a a<n) (node_table_lem no_pairings i ok a (omega (arith, a<n)), h a e)))
