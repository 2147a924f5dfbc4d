-- The machine, from the start or from a used cache, along the accesses of an accepted input, and the finished table of a straight run.
use Rattle.std.specs.Prelude.{None}
use mathlib.Core.Path.{◌≡◌, refl, sym, ap, ap₂, ◌∙◌}
use mathlib.Core.Bool.{Bool, true, false, cond, true≢false, and-true}
use mathlib.Core.Logic.{◌⊎◌, inl, inr}
use mathlib.Core.List.{List, []}
use Prim.Native.Nat.{ℕ, ◌+◌, ◌*◌, ◌^◌, ◌≤◌, ◌<◌, zero-le}
use native.Mathlib.Nat.{le_trans, le_of_eq}
use native.Mathlib.Decide.{dec_lt}
use native.Mathlib.Omega.{arith}
use lib.Dec.{eqb}
use lib.ListN.{length, length-replicate, get_or-eq_default}
use Rattle.basics.proofs.Bools.{and_right}
use Rattle.machine.specs.Cache.{empty, Cache, Revision, first, second, start, Built}
use Rattle.machine.specs.Draws.{count_from}
use Rattle.machine.proofs.Draws.{total}
use Rattle.machine.proofs.Ways.{may_most, built_start}
use Rattle.rules.specs.Answers.{outcome_says}
use Rattle.rules.specs.Units.{whole}
use Rattle.rules.specs.Contents.{places}
use Rattle.rules.specs.Input.{Input, nodes}
use Rattle.rules.specs.AnyTable.{Entries}
use Rattle.rules.specs.Table.{begin, Work}
use Rattle.rules.specs.Run.{run}
use Rattle.rules.specs.Graph.{is_cold, starts_empty, at_start, finished, finished_by}
use Rattle.rules.specs.declared.Start.{Start}
use Rattle.rules.specs.declared.Start.TheVariants.{Cold as cold, Warm as warm}
use Rattle.rules.specs.declared.Filled.{Filled}
use Rattle.rules.specs.Filling.{filled_at, evenly}
use Rattle.rules.specs.Questions.{above}
use Rattle.rules.specs.Refusals.{outcome}
use Rattle.rules.proofs.Contents.{sixteen_places}
use Rattle.rules.proofs.Lookup.{once_at}
use Rattle.rules.proofs.Filling.{Fewer}
use Rattle.rules.proofs.Table.{Weight, worth}
use Rattle.rules.proofs.Graph.{start_most}
use Rattle.rules.proofs.Starts.{used_filled}
use Rattle.rules.proofs.Refusals.{Checked}
use Rattle.rules.proofs.Run.{table_begin}
use Rattle.rules.proofs.Questions.{above_most, finished_whole}
use Rattle.promises.specs.Paths.{is_path, accesses_of, all_tracked}
use Rattle.promises.specs.Ends.{revision_of, over}
use Rattle.promises.proofs.Seen.{contents_start, filled_of, filled_at_lem, filled_narrow, filled_start, none_filled}
use Rattle.promises.proofs.Value.{value, Rises, sub_zero, targets_of}
use Rattle.promises.proofs.Safe.{seen, machine_below}
use Rattle.promises.proofs.Exact.{machine_equal}
use Rattle.promises.proofs.Runs.{run_high, run_even}
use Rattle.promises.proofs.Graphs.{path_covers, straight}
use Rattle.promises.proofs.Weights.{one_where, over_is, over_rises, worth_above, count_over}

module _ (i : Input) (ok : Checked i) where
  abbrev N : ℕ
  N = i.ways

  abbrev v : Revision
  v = revision_of i

  abbrev ahead : Weight → List ℕ → ℕ
  ahead W p = value W N (targets_of i.sets i.tracked None p) 0 0 (at_start i)

  few : length i.tracked ≤ places
  few = rw sixteen_places ok.few_tracked

  -- ---- the machine

  -- from any cache of these sets and ways, of which no more ways may be filled than the rules say
  module _ (c : Cache) (built : Built i.sets N c) (fresh : c.misses ≡ 0) where
    machine_from : Fewer (filled_of v c) (at_start i) → (W : Weight) → Rises N i.sets i.tracked W → (p : List ℕ)
        → total (seen v i.tracked W) v N c p ≤ ahead W p
    machine_from fewer W rises p =
        machine_below i.tracked (once_at i.tracked ok.distinct) few W v i.sets N ok.some_sets ok.few_sets ok.few_ways rises p c 0 0
        (at_start i) None built (sub_zero _) fewer (λ b e. absurd (true≢false (sym e))) (le_of_eq fresh)

    -- where the rules say that all may be filled, that is any
    pub machine_used : starts_empty i ≡ false → (W : Weight) → Rises N i.sets i.tracked W → (p : List ℕ)
        → total (seen v i.tracked W) v N c p ≤ ahead W p
    machine_used used = machine_from (λ j. all j (dec_lt j i.sets))
      where
        all : (j : ℕ) → Dec (j < i.sets) → filled_at (filled_of v c) j ≤ filled_at (at_start i) j
        all j (yes l) =
            rw (used_filled i ok.few_ways ok.few_sets used j l) (filled_narrow v i.sets N ok.few_ways ok.some_sets ok.few_sets c built j)
        all j (no l) =
            rw (filled_at_lem v i.sets N ok.few_ways ok.some_sets ok.few_sets c built j, get_or-eq_default c.sets [] {n = j} (omega (arith, built.count)))
            (le_trans (may_most v []) zero-le)

  -- at the start in the second revision no way is filled, in the first any may be
  start_filled : filled_of v (start i.sets N) ≡ evenly i.sets (cond (eqb i.revision 2) 0 N)
  start_filled = go (eqb i.revision 2)
    where
      go : (b : Bool) → filled_of (cond b second first) (start i.sets N) ≡ evenly i.sets (cond b 0 N)
      go true = filled_start second i.sets N ∙ ap (evenly i.sets) (none_filled N)
      go false = filled_start first i.sets N ∙ ap (evenly i.sets) (length-replicate N empty)

  -- which the rules say too, where it starts cold
  pub cold_filled : i.start ≡ cold → filled_of v (start i.sets N) ≡ at_start i
  unfolding at_start
  cold_filled e = start_filled ∙ rw e (ap (λ (b : Bool). evenly i.sets (cond b 0 N)) (sym (and-true (eqb i.revision 2))))

  -- from the start, whichever start is named
  pub machine_start : (W : Weight) → Rises N i.sets i.tracked W → (p : List ℕ) → total (seen v i.tracked W) v N (start i.sets N) p ≤ ahead W p
  machine_start = go (starts_empty i) refl
    where
      built : Built i.sets N (start i.sets N)
      built = built_start i.sets N

      go : (b : Bool) → starts_empty i ≡ b → (W : Weight) → Rises N i.sets i.tracked W → (p : List ℕ)
          → total (seen v i.tracked W) v N (start i.sets N) p ≤ ahead W p
      go true e = machine_from (start i.sets N) built refl (λ j. le_of_eq (ap (λ (F : Filled). filled_at F j) (cold_filled (starts_cold i.start (and_right (eqb i.revision 2) _ e)))))
        where
          starts_cold : (o : Start) → is_cold o ≡ true → o ≡ cold
          starts_cold cold h = refl
          starts_cold warm h = absurd (true≢false (sym h))
      go false e = machine_used (start i.sets N) built refl e

  -- and where the revision is the first
  pub first_filled : i.revision ≡ 1 → filled_of v (start i.sets N) ≡ at_start i
  unfolding at_start
  first_filled e = start_filled ∙ rw e

  -- where the rules say what is filled, and every access is tracked
  pub machine_even : filled_of v (start i.sets N) ≡ at_start i → (p : List ℕ) → all_tracked i.tracked p ≡ true → (W : Weight)
      → total (seen v i.tracked W) v N (start i.sets N) p ≡ ahead W p
  machine_even filled p all W =
      machine_equal i.tracked (once_at i.tracked ok.distinct) few i.sets N ok.some_sets ok.few_sets ok.few_ways W v p (start i.sets N) None (built_start i.sets N) all
      ∙ ap₂ (λ (C : ℕ) (F : Filled). value W N (targets_of i.sets i.tracked None p) C 0 F)
      (contents_start i.tracked i.sets N) filled

  -- ---- so along every path, with any pairings

  module _ (q : Entries) where
    -- from a cache where the machine's sum is at most the value of the start, for every weight that rises
    safe_from : (c : Cache)
        → ((W : Weight) → Rises N i.sets i.tracked W → (p : List ℕ) → total (seen v i.tracked W) v N c p ≤ ahead W p)
        → (path : List ℕ) → is_path i path ≡ true → (B : ℕ)
        → count_from (over B) v N c (accesses_of i path) * whole ≤ above B (finished_by q i).table * N ^ length (accesses_of i path)
    safe_from c machine path p B =
        rw (count_over v i.tracked B N c (accesses_of i path), ← worth_above B (finished_by q i).table)
        (omega (
          arith,
          path_covers q i ok path p (one_where (over_is B)) (over_rises N i.sets i.tracked B),
          machine (one_where (over_is B)) (over_rises N i.sets i.tracked B) (accesses_of i path),
        ))

    pub safe_start : (path : List ℕ) → is_path i path ≡ true → (B : ℕ)
        → count_from (over B) v N (start i.sets N) (accesses_of i path) * whole ≤ above B (finished_by q i).table * N ^ length (accesses_of i path)
    safe_start = safe_from (start i.sets N) machine_start

    pub safe_used_from : (c : Cache) → Built i.sets N c → c.misses ≡ 0 → starts_empty i ≡ false → (path : List ℕ) → is_path i path ≡ true → (B : ℕ)
        → count_from (over B) v N c (accesses_of i path) * whole ≤ above B (finished_by q i).table * N ^ length (accesses_of i path)
    safe_used_from c built fresh used = safe_from c (machine_used c built fresh used)

    -- ---- a straight run

    module _ (one : nodes i ≡ 1) where
      -- as many units as the draws ahead, and those set aside; or the count has stopped
      pub straight_high : (W : Weight) → ((C m : ℕ) (F : Filled) → W C m F ≤ 1)
          → ((finished_by q i).aside ≡ whole)
          ⊎ (worth W (finished_by q i).table * N ^ length i.accesses ≤ whole * ahead W i.accesses + (finished_by q i).aside * N ^ length i.accesses)
      straight_high W most = rw (straight q i ok one) (go (run_high N i.sets i.limit i.tracked ok.some_ways ok.few_ways ok.some_sets ok.few_sets ok.some_states W most 0 None i.accesses begun
          (table_begin N i.sets i.tracked i.limit ok.some_ways ok.few_ways ok.some_states (at_start i) (start_most i ok))))
        where
          begun : Work
          begun = record { table = begin (at_start i); aside = 0 }

          v : Work
          v = run N i.sets i.limit i.tracked None i.accesses begun

          go : (v.aside ≡ whole)
              ⊎ (N ^ length i.accesses * worth W v.table + 0 * N ^ length i.accesses
              ≤ whole * ahead W i.accesses + 0 + v.aside * N ^ length i.accesses)
              → (v.aside ≡ whole)
              ⊎ (worth W v.table * N ^ length i.accesses ≤ whole * ahead W i.accesses + v.aside * N ^ length i.accesses)
          go (inl e) = inl e
          go (inr h) = inr (omega arith)

      pub straight_even : (W : Weight) → (finished_by q i).aside ≡ 0
          → worth W (finished_by q i).table * N ^ length i.accesses ≡ whole * ahead W i.accesses
      straight_even W e = rw (straight q i ok one) (omega (
        arith,
        (run_even N i.sets i.limit i.tracked ok.some_ways ok.few_ways ok.some_sets ok.few_sets ok.some_states W 0 None i.accesses (record { table = begin (at_start i); aside = 0 })
            (table_begin N i.sets i.tracked i.limit ok.some_ways ok.few_ways ok.some_states (at_start i) (start_most i ok)) (rw (straight q i ok one) at e)).1,
      ))

-- no more units are above a budget than there are
pub below_whole : (i : Input) → (outcome_says (outcome i)).number ≡ 0 → (B : ℕ) → above B (finished i).table ≤ whole
below_whole i h B = le_trans (above_most B (finished i).table) (le_of_eq (finished_whole i h))
