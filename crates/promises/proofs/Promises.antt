-- The promises, together and with all that they assume: an input that is accepted, by the very definition that refuses it (its
-- outcome says 0). N is its ways in each set, L the accesses of the path, `whole` is 2^48. The machine is of the
-- revision and has the sets that the input names, and starts empty unless said.
use mathlib.Core.Path.{◌≡◌, refl, sym, ap, ◌∙◌}
use mathlib.Core.Bool.{true, false}
use mathlib.Core.Logic.{⊎_elim}
use mathlib.Core.List.{List}
use Prim.Native.Nat.{ℕ, ◌+◌, ◌*◌, ◌^◌, ◌≤◌, ◌<◌}
use native.Mathlib.Nat.{le_refl, mul-le-mul_right}
use native.Mathlib.Omega.{arith}
use lib.ListN.{length}
use Rattle.machine.specs.Cache.{Cache, first, start, Built}
use Rattle.machine.specs.Draws.{count_from, count}
use Rattle.rules.specs.Answers.{outcome_says, number_says, amount_says}
use Rattle.rules.specs.declared.Start.TheVariants.{Cold as cold}
use Rattle.rules.specs.Input.{Input, nodes}
use Rattle.rules.specs.Questions.{is_table, above}
use Rattle.rules.specs.Cycles.{cores, core_at, above_cycles, smallest_cycles, above_cycles_answer, cycle_budget_answer}
use Rattle.rules.specs.Longest.{longest}
use Rattle.rules.specs.Graph.{starts_empty, finished, finished_by}
use Rattle.rules.specs.Refusals.{outcome, best_outcome}
use Rattle.rules.specs.AnyTable.{no_pairings, fits, total as best_total_lem}
use Rattle.rules.specs.declared.State.{State}
use Rattle.rules.specs.Fold.{states as kind_of}
use Rattle.rules.specs.Join.{Match, paired}
use Rattle.rules.specs.Entries.{entry_of, paired_outcome}
use Rattle.rules.specs.Best.{listing, best_table}
use Rattle.rules.specs.BestQuestions.{is_best_table, misses_above, hits_above}
use Rattle.rules.specs.Table.{listing as states, total}
use Rattle.rules.specs.Units.{whole}
use Rattle.rules.proofs.Refusals.{accepted, best_accepted, says_aside}
use Rattle.rules.proofs.Table.{states_lawful}
use Rattle.rules.proofs.Pairings.{fits_uses}
use Rattle.rules.proofs.AnyTable.{paired_total}
use Rattle.rules.proofs.Entries.{paired_accepted}
use Rattle.rules.proofs.Questions.{good_table, finished_whole, finished_is_table}
use Rattle.rules.proofs.BestQuestions.{best_whole, best_is_table}
use Rattle.rules.proofs.Cycles.{miss_above_hit_lem, cycles_accepted, above_cycles_answered, cycle_budget_answered}
use Rattle.rules.proofs.Longest.{longest_most, within_longest, finished_within}
use Rattle.promises.specs.Paths.{is_path, accesses_of, all_tracked}
use Rattle.promises.specs.Ends.{revision_of, over, over_hits, over_cycles, ends_with, units_with}
use Rattle.promises.specs.Own.{own_counts, own_rows}
use Rattle.promises.proofs.Own.{own_answered, own_finished}
use Rattle.promises.proofs.Longest.{no_longer, longest_straight}
use Rattle.promises.proofs.Graphs.{straight}
use Rattle.promises.proofs.Straight.{safe_used_from, safe_start, cold_filled, machine_even, straight_high, straight_even, below_whole}
use Rattle.promises.proofs.Weights.{one_where, one_most, over_is, worth_above, count_over, at_is, worth_with, count_with}
use Rattle.promises.proofs.Cycles.{cycles_safe, cycles_tight}
use Rattle.promises.proofs.BestMachine.{misses_within, hits_within}

-- Safe, the first half of point 3. For every accepted graph, every path from first node to last and every budget B:
-- (choice sequences with more misses than B) × 2^48 ≤ (units above B) × N^L.
-- What stands on the left does not depend on the tracked blocks. So where a graph is worked with several lists of them, each list's units bound
-- it, the fewest of them too: the smallest of their budgets for an allowance is safe.
pub safe : (i : Input) → (outcome_says (outcome i)).number ≡ 0 → (path : List ℕ) → is_path i path ≡ true → (B : ℕ)
    → count (over B) (revision_of i) i.sets i.ways (accesses_of i path) * whole ≤ above B (finished i).table * i.ways ^ length (accesses_of i path)
unfolding count
safe i ok = safe_start i (accepted i ok) no_pairings

-- Safe from a used cache. The same where the input names the first revision or the warm start: the machine may then begin with any
-- contents, as long as there are as many sets and ways as the input says and no block is in two ways of a set.
pub safe_used : (i : Input) → (outcome_says (outcome i)).number ≡ 0 → starts_empty i ≡ false
    → (c : Cache) → Built i.sets i.ways c → c.misses ≡ 0 → (path : List ℕ) → is_path i path ≡ true → (B : ℕ)
    → count_from (over B) (revision_of i) i.ways c (accesses_of i path) * whole ≤ above B (finished i).table * i.ways ^ length (accesses_of i path)
safe_used i ok any c built fresh = safe_used_from i (accepted i ok) no_pairings c built fresh any

-- Tight, the second half of point 3. On a straight run from the cold start with every block tracked the excess is at most set aside × N^L.
pub tight : (i : Input) → (outcome_says (outcome i)).number ≡ 0 → i.start ≡ cold → nodes i ≡ 1 → all_tracked i.tracked i.accesses ≡ true → (B : ℕ)
    → above B (finished i).table * i.ways ^ length i.accesses
    ≤ count (over B) (revision_of i) i.sets i.ways i.accesses * whole + (outcome_says (outcome i)).aside * i.ways ^ length i.accesses
unfolding count
tight i ok o one all B =
    let c = accepted i ok in
    rw (says_aside i ok, count_over (revision_of i) i.tracked B i.ways (start i.sets i.ways) i.accesses)
    (⊎_elim
    (λ e. rw e (omega (arith, mul-le-mul_right (i.ways ^ length i.accesses) (below_whole i ok B))))
    (λ h. omega (arith, rw (worth_above B (finished i).table) at h, machine_even i c (cold_filled i c o) i.accesses all (one_where (over_is B))))
    (straight_high i c no_pairings one (one_where (over_is B)) (one_most (over_is B))))

-- Exact, point 2. On a straight run from the cold start with every block tracked and nothing set aside, for each contents C and miss
-- count m, over all filled numbers: units × N^L = 2^48 × the number of choice sequences ending there.
pub exact : (i : Input) → (outcome_says (outcome i)).number ≡ 0 → i.start ≡ cold → nodes i ≡ 1 → all_tracked i.tracked i.accesses ≡ true
    → (outcome_says (outcome i)).aside ≡ 0 → (C m : ℕ)
    → units_with C m (finished i).table * i.ways ^ length i.accesses
    ≡ whole * count (ends_with i.tracked C m) (revision_of i) i.sets i.ways i.accesses
unfolding count
exact i ok o one all none C m =
    let c = accepted i ok in
    let table = straight_even i c no_pairings one (one_where (at_is C m)) (sym (says_aside i ok) ∙ none) in
    rw (count_with (revision_of i) i.tracked C m i.ways (start i.sets i.ways) i.accesses, ← worth_with C m (finished i).table)
    (omega (arith, table, machine_even i c (cold_filled i c o) i.accesses all (one_where (at_is C m))))

-- Whole. Units always total 2^48, and the finished table is a table by section 4, so that the questions accept it.
pub whole_table : (i : Input) → (outcome_says (outcome i)).number ≡ 0 → (total (finished i).table ≡ whole) × (is_table (finished i).table ≡ true)
whole_table i ok = (finished_whole i ok, finished_is_table i ok)

-- ---- in cycles: L are the accesses of the longest path, handed in with the table, k is the number of a core

-- Safe in cycles, the first half of point 3. For every accepted graph, every path, core and cycle budget B, with the path's own cycles:
-- (choice sequences that take more cycles than B) × 2^48 ≤ (units above B in cycles) × N^(accesses of the path).
pub safe_cycles : (i : Input) → (outcome_says (outcome i)).number ≡ 0 → (L : ℕ) → L ≡ longest i → (path : List ℕ) → is_path i path ≡ true
    → (k : ℕ) → k < length cores → (B : ℕ)
    → count (over_cycles (core_at k) (length (accesses_of i path)) B) (revision_of i) i.sets i.ways (accesses_of i path) * whole
    ≤ above_cycles (core_at k) L B (finished i).table * i.ways ^ length (accesses_of i path)
unfolding count
safe_cycles i ok L e path p k known =
    let c = accepted i ok in
    cycles_safe (core_at k) (miss_above_hit_lem k known) (revision_of i) L i.ways (start i.sets i.ways) refl (accesses_of i path)
    (rw e (no_longer i c path p)) (finished i).table (finished_whole i ok) (rw e (finished_within i c)) (safe i ok path p)

-- and from a used cache
pub safe_cycles_used : (i : Input) → (outcome_says (outcome i)).number ≡ 0 → starts_empty i ≡ false
    → (c : Cache) → Built i.sets i.ways c → c.misses ≡ 0 → (L : ℕ) → L ≡ longest i → (path : List ℕ) → is_path i path ≡ true
    → (k : ℕ) → k < length cores → (B : ℕ)
    → count_from (over_cycles (core_at k) (length (accesses_of i path)) B) (revision_of i) i.ways c (accesses_of i path) * whole
    ≤ above_cycles (core_at k) L B (finished i).table * i.ways ^ length (accesses_of i path)
safe_cycles_used i ok any c built fresh L e path p k known =
    let a = accepted i ok in
    cycles_safe (core_at k) (miss_above_hit_lem k known) (revision_of i) L i.ways c fresh (accesses_of i path)
    (rw e (no_longer i a path p)) (finished i).table (finished_whole i ok) (rw e (finished_within i a)) (safe_used i ok any c built fresh path p)

-- Tight in cycles, the second half of point 3. On a straight run from the cold start with every block tracked the excess is at most set
-- aside × N^L.
pub tight_cycles : (i : Input) → (outcome_says (outcome i)).number ≡ 0 → i.start ≡ cold → nodes i ≡ 1 → all_tracked i.tracked i.accesses ≡ true
    → (L : ℕ) → L ≡ longest i → (k : ℕ) → k < length cores → (B : ℕ)
    → above_cycles (core_at k) L B (finished i).table * i.ways ^ length i.accesses
    ≤ count (over_cycles (core_at k) (length i.accesses) B) (revision_of i) i.sets i.ways i.accesses * whole
    + (outcome_says (outcome i)).aside * i.ways ^ length i.accesses
unfolding count
tight_cycles i ok o one all L e k known =
    let c = accepted i ok in
    let straight = longest_straight i c one in
    rw (e ∙ straight)
    (cycles_tight (core_at k) (miss_above_hit_lem k known) (revision_of i) (length i.accesses) i.ways (start i.sets i.ways) refl i.accesses
    (le_refl (length i.accesses)) (finished i).table (finished_whole i ok) (rw (← straight) (finished_within i c)) (outcome_says (outcome i)).aside
    (tight i ok o one all))

-- Asked in cycles. The questions in cycles accept the finished table with its longest path, for every core, and say these very units and
-- the smallest cycle budget for u of them.
pub asked_cycles : (i : Input) → (outcome_says (outcome i)).number ≡ 0 → (L : ℕ) → L ≡ longest i → (k : ℕ) → k < length cores → (B u : ℕ)
    → (amount_says (above_cycles_answer (finished i).table k L B) ≡ record { number = 0; value = above_cycles (core_at k) L B (finished i).table })
    × (number_says (cycle_budget_answer (finished i).table k L u) ≡ record { number = 0; value = smallest_cycles (core_at k) L u (finished i).table })
asked_cycles i ok L e k known B u =
    let c = accepted i ok in
    let T = (finished i).table in
    let asked = cycles_accepted T k L known (omega (arith, longest_most i c, c.few_accesses)) (finished_is_table i ok) (rw e (finished_within i c)) in
    (ap amount_says (sym (above_cycles_answered T k L asked B _ refl)), ap number_says (sym (cycle_budget_answered T k L asked u _ refl)))

-- ---- with pairings: ns and rs are what is handed in for the joins, and the call with them is accepted. The machine does not know of pairings

-- An accepted pairing keeps the total.
pub pairing_keeps : (P : List Match) (S T : List State) → fits states P S T ≡ true → total S ≤ whole → total (paired P S T) ≡ total S
pairing_keeps P S T h full = paired_total kind_of states_lawful P S T (fits_uses states P S T h).0 full

-- Safe with pairings, the first half of point 3: for every path and every budget B, as without them.
pub safe_paired : (i : Input) (ns rs : List ℕ) → (outcome_says (paired_outcome i ns rs)).number ≡ 0 → (path : List ℕ) → is_path i path ≡ true → (B : ℕ)
    → count (over B) (revision_of i) i.sets i.ways (accesses_of i path) * whole
    ≤ above B (finished_by (entry_of ns rs) i).table * i.ways ^ length (accesses_of i path)
unfolding count
safe_paired i ns rs ok = safe_start i (accepted i (paired_accepted i ns rs ok).0) (entry_of ns rs)

-- and from a used cache
pub safe_used_paired : (i : Input) (ns rs : List ℕ) → (outcome_says (paired_outcome i ns rs)).number ≡ 0 → starts_empty i ≡ false
    → (c : Cache) → Built i.sets i.ways c → c.misses ≡ 0 → (path : List ℕ) → is_path i path ≡ true → (B : ℕ)
    → count_from (over B) (revision_of i) i.ways c (accesses_of i path) * whole
    ≤ above B (finished_by (entry_of ns rs) i).table * i.ways ^ length (accesses_of i path)
safe_used_paired i ns rs ok any c built fresh =
    safe_used_from i (accepted i (paired_accepted i ns rs ok).0) (entry_of ns rs) c built fresh any

-- in cycles: L are the accesses of the longest path, k is the number of a core
pub safe_cycles_paired : (i : Input) (ns rs : List ℕ) → (outcome_says (paired_outcome i ns rs)).number ≡ 0 → (L : ℕ) → L ≡ longest i
    → (path : List ℕ) → is_path i path ≡ true → (k : ℕ) → k < length cores → (B : ℕ)
    → count (over_cycles (core_at k) (length (accesses_of i path)) B) (revision_of i) i.sets i.ways (accesses_of i path) * whole
    ≤ above_cycles (core_at k) L B (finished_by (entry_of ns rs) i).table * i.ways ^ length (accesses_of i path)
unfolding count
safe_cycles_paired i ns rs ok L e path p k known =
    let c = accepted i (paired_accepted i ns rs ok).0 in
    cycles_safe (core_at k) (miss_above_hit_lem k known) (revision_of i) L i.ways (start i.sets i.ways) refl (accesses_of i path)
    (rw e (no_longer i c path p)) (finished_by (entry_of ns rs) i).table (good_table (entry_of ns rs) i c).0 (rw e (within_longest (entry_of ns rs) i c))
    (safe_paired i ns rs ok path p)

-- and both
pub safe_cycles_used_paired : (i : Input) (ns rs : List ℕ) → (outcome_says (paired_outcome i ns rs)).number ≡ 0 → starts_empty i ≡ false
    → (c : Cache) → Built i.sets i.ways c → c.misses ≡ 0 → (L : ℕ) → L ≡ longest i → (path : List ℕ) → is_path i path ≡ true
    → (k : ℕ) → k < length cores → (B : ℕ)
    → count_from (over_cycles (core_at k) (length (accesses_of i path)) B) (revision_of i) i.ways c (accesses_of i path) * whole
    ≤ above_cycles (core_at k) L B (finished_by (entry_of ns rs) i).table * i.ways ^ length (accesses_of i path)
safe_cycles_used_paired i ns rs ok any c built fresh L e path p k known =
    let a = accepted i (paired_accepted i ns rs ok).0 in
    cycles_safe (core_at k) (miss_above_hit_lem k known) (revision_of i) L i.ways c fresh (accesses_of i path)
    (rw e (no_longer i a path p)) (finished_by (entry_of ns rs) i).table (good_table (entry_of ns rs) i a).0 (rw e (within_longest (entry_of ns rs) i a))
    (safe_used_paired i ns rs ok any c built fresh path p)

-- Whole. With any accepted pairings units total 2^48, and the finished table is a table, so that the questions accept it.
pub whole_paired : (i : Input) (ns rs : List ℕ) → (outcome_says (paired_outcome i ns rs)).number ≡ 0
    → (total (finished_by (entry_of ns rs) i).table ≡ whole) × (is_table (finished_by (entry_of ns rs) i).table ≡ true)
whole_paired i ns rs ok = good_table (entry_of ns rs) i (accepted i (paired_accepted i ns rs ok).0)

-- Document 01's own pairings, handed in at every join of a graph, give the answer that none gives, refusals too: so they are accepted where the graph is,
pub own_pairings_lem : (i : Input) → paired_outcome i (own_counts i) (own_rows i) ≡ outcome i
own_pairings_lem i = own_answered i

-- and the finished table and the set-aside count are the same.
pub own_table : (i : Input) → (outcome_says (outcome i)).number ≡ 0 → finished_by (entry_of (own_counts i) (own_rows i)) i ≡ finished i
own_table i ok = own_finished i (accepted i ok)

-- Point 2 and the second half of point 3 are about straight runs, which have no join: there the table and the set-aside count are those without pairings,
-- so that exact and tight hold of them.
pub straight_paired : (i : Input) (ns rs : List ℕ) → (outcome_says (paired_outcome i ns rs)).number ≡ 0 → nodes i ≡ 1 → finished_by (entry_of ns rs) i ≡ finished i
straight_paired i ns rs ok one =
    let c = accepted i (paired_accepted i ns rs ok).0 in
    straight (entry_of ns rs) i c one ∙ sym (straight no_pairings i c one)

-- ---- the best case, for an input that is accepted by the call for it: the first revision, started cold, every accessed block tracked

-- Sure misses. For every accepted graph, every path from first node to last and every number B:
-- (units with more than B misses) × N^L ≤ 2^48 × (choice sequences with more than B misses).
pub sure_misses : (i : Input) → (number_says (best_outcome i)).number ≡ 0 → (path : List ℕ) → is_path i path ≡ true → (B : ℕ)
    → misses_above B (best_table i) * i.ways ^ length (accesses_of i path) ≤ whole * count (over B) first i.sets i.ways (accesses_of i path)
sure_misses i h path p B = omega (arith, misses_within i (best_accepted i h) path p B)

-- Sure hits. The same of hits, which are the accesses of the path that are no misses:
-- (units with more than B hits) × N^L ≤ 2^48 × (choice sequences with more than B hits).
pub sure_hits : (i : Input) → (number_says (best_outcome i)).number ≡ 0 → (path : List ℕ) → is_path i path ≡ true → (B : ℕ)
    → hits_above B (best_table i) * i.ways ^ length (accesses_of i path)
    ≤ whole * count (over_hits (length (accesses_of i path)) B) first i.sets i.ways (accesses_of i path)
sure_hits i h path p B = omega (arith, hits_within i (best_accepted i h) path p B)

-- Whole. Units always total 2^48, and the finished table is a table by section 4, so that the questions accept it.
pub whole_best : (i : Input) → (number_says (best_outcome i)).number ≡ 0
    → (best_total_lem listing (best_table i) ≡ whole) × (is_best_table (best_table i) ≡ true)
whole_best i h = (best_whole i h, best_is_table i h)
