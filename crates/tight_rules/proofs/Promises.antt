-- The promises of the second curve, together and with all that they assume: an input that is accepted, by the very definition that refuses it (its verdict says 0). N is
-- its ways in each set, L the accesses of the path, `whole` is 2^48. The machine and the paths are those of the first curve's promises; it starts empty unless said.
use Rattle.std.specs.Prelude.{None}
use mathlib.Core.Path.{◌≡◌, refl, ap, ◌∙◌}
use mathlib.Core.Bool.{true, false}
use mathlib.Core.Logic.{◌⊎◌, inl, inr, ⊎_elim}
use mathlib.Core.List.{List, [], ◌∷◌, flat_map, append-nil}
use Prim.Native.Nat.{ℕ, ◌+◌, ◌-◌, ◌*◌, ◌^◌, ◌≤◌, ◌<◌}
use native.Mathlib.Nat.{le_refl, le_trans, le_of_eq, le_antisymm, mul-le-mul_right}
use native.Mathlib.Decide.{dec_lt}
use native.Mathlib.Omega.{arith}
use lib.Dec.{eqb}
use lib.ListN.{length}
use borrow.Author.Tests.{eq-eqb}
use Rattle.basics.proofs.Bools.{both}
use Rattle.machine.specs.Cache.{Cache, start, Built}
use Rattle.machine.specs.Draws.{count_from, count}
use Rattle.machine.proofs.Draws.{total as total_draws}
use Rattle.rules.specs.Answers.{verdict_says}
use Rattle.rules.specs.declared.Start.TheVariants.{Cold as cold}
use Rattle.rules.specs.Input.{nodes, run_of}
use Rattle.rules.specs.Questions.{above, largest}
use Rattle.rules.specs.Cycles.{cores, core_at, above_cycles}
use Rattle.rules.specs.Longest.{longest}
use Rattle.rules.specs.Filling.{at_start}
use Rattle.rules.specs.Graph.{starts_empty}
use Rattle.rules.specs.Table.{total}
use Rattle.rules.specs.Units.{whole}
use Rattle.rules.proofs.Table.{Weight}
use Rattle.rules.proofs.Graph.{start_most}
use Rattle.rules.proofs.Questions.{above_most as above_total}
use Rattle.rules.proofs.Cycles.{miss_above_hit_lem}
use Rattle.rules.proofs.Refusals.{Checked}
use Rattle.promises.specs.Paths.{is_path, accesses_of, all_tracked}
use Rattle.promises.specs.Ends.{revision_of, over, over_cycles}
use Rattle.promises.proofs.Value.{Rises}
use Rattle.promises.proofs.Safe.{seen}
use Rattle.promises.proofs.Graphs.{whole_run}
use Rattle.promises.proofs.Longest.{no_longer, longest_straight}
use Rattle.promises.proofs.Straight.{machine_start, machine_used, machine_even, cold_filled}
use Rattle.promises.proofs.Weights.{one_where, over_is, over_rises, count_over}
use Rattle.promises.proofs.Cycles.{cycles_safe, cycles_tight}
use Rattle.tight_rules.specs.Asked.{Asked, graph_of}
use Rattle.tight_rules.specs.Rows.{Rows, begun}
use Rattle.tight_rules.specs.Run.{run}
use Rattle.tight_rules.specs.Live.{live_after}
use Rattle.tight_rules.specs.Graph.{finished, curve}
use Rattle.tight_rules.specs.Refusals.{verdict}
use Rattle.tight_rules.proofs.Runs.{run_high}
use Rattle.tight_rules.proofs.Graphs.{begun_fit, ahead, node_rows, finished_rows, node_start, path_covers}
use Rattle.tight_rules.proofs.Curves.{accepted, above_good, above_most, above_least, curve_whole, curve_within, never_above}

-- ---- the argument: the machine is below the value of the start, and the value of the start below what the last table is worth

module _ (a : Asked) (ok : Checked (graph_of a)) where
  safe_from : (c : Cache) → c.misses ≡ 0
      → ((W : Weight) → Rises a.ways a.sets a.tracked W → (p : List ℕ)
      → total_draws (seen (revision_of (graph_of a)) a.tracked W) (revision_of (graph_of a)) a.ways c p ≤ ahead a ok None p W 0 0 (at_start (graph_of a)))
      → (path : List ℕ) → is_path (graph_of a) path ≡ true → (B : ℕ)
      → count_from (over B) (revision_of (graph_of a)) a.ways c (accesses_of (graph_of a) path) * whole ≤ above B (curve a) * a.ways ^ length (accesses_of (graph_of a) path)
  safe_from c fresh machine path p B = go (dec_lt B (longest (graph_of a)))
    where
      bs : List ℕ
      bs = accesses_of (graph_of a) path

      go : Dec (B < longest (graph_of a)) → count_from (over B) (revision_of (graph_of a)) a.ways c bs * whole ≤ above B (curve a) * a.ways ^ length bs
      go (yes l) =
          rw (count_over (revision_of (graph_of a)) a.tracked B a.ways c bs)
          (omega (
            arith,
            machine (one_where (over_is B)) (over_rises a.ways a.sets a.tracked B) bs,
            path_covers a ok path p (one_where (over_is B)) 1 (above_good a.ways a.sets a.tracked B),
            mul-le-mul_right (a.ways ^ length bs) (above_least a B l),
          ))
      go (no l) = omega (arith, never_above (revision_of (graph_of a)) a.ways c bs B fresh (le_trans (no_longer (graph_of a) ok path p) (omega arith)))

  -- a straight run: its accesses from the start
  straight : nodes (graph_of a) ≡ 1
      → finished a ≡ run a.ways a.sets a.contents a.cells a.tracked (live_after (graph_of a) 0) None a.accesses (begun (at_start (graph_of a)))
  straight one =
      finished_rows a ok.some_nodes
      ∙ ap (node_rows a) (omega arith)
      ∙ node_start a ok
      ∙ ap (λ (bs : List ℕ). run a.ways a.sets a.contents a.cells a.tracked (live_after (graph_of a) 0) None bs (begun (at_start (graph_of a)))) (whole_run (graph_of a) ok one)

  -- its table has no more above a budget than the draws and what is set aside make up for
  near_straight : nodes (graph_of a) ≡ 1 → (B : ℕ)
      → ((finished a).kept.aside ≡ whole)
      ⊎ (above B (curve a) * a.ways ^ length a.accesses
      ≤ whole * ahead a ok None a.accesses (one_where (over_is B)) 0 0 (at_start (graph_of a)) + (finished a).kept.aside * a.ways ^ length a.accesses)
  near_straight one B =
      ⊎_elim (λ e. inl (ap (λ (r : Rows). r.kept.aside) (straight one) ∙ e))
      (λ h. inr (omega (arith, mul-le-mul_right (a.ways ^ length a.accesses) (above_most a B), rw (← straight one) at h)))
      (run_high a.ways a.sets a.contents a.cells a.tracked ok.some_ways ok.few_ways ok.some_sets ok.few_sets (live_after (graph_of a) 0)
      (one_where (over_is B)) 1 (above_good a.ways a.sets a.tracked B) 0 None a.accesses (begun (at_start (graph_of a)))
      (begun_fit a.ways a.sets a.tracked (at_start (graph_of a)) (start_most (graph_of a) ok)) (λ C m F room. le_refl _))

-- the path of one node, and its accesses
one_path : (a : Asked) → nodes (graph_of a) ≡ 1 → is_path (graph_of a) (0 ∷ []) ≡ true
unfolding is_path
one_path a one = both (eqb 0 0) (eqb 0 (nodes (graph_of a) - 1)) (eq-eqb 0 0 refl) (eq-eqb 0 (nodes (graph_of a) - 1) (omega arith))

one_run : (a : Asked) → Checked (graph_of a) → nodes (graph_of a) ≡ 1 → accesses_of (graph_of a) (0 ∷ []) ≡ a.accesses
unfolding accesses_of flat_map
one_run a ok one = append-nil (run_of (graph_of a) 0) ∙ whole_run (graph_of a) ok one

-- ---- the promises

-- Safe, the first half of point 3. For every accepted graph, every path from first node to last and every budget B:
-- (choice sequences with more misses than B) × 2^48 ≤ (units above B) × N^L.
pub safe : (a : Asked) → verdict_says (verdict a) ≡ 0 → (path : List ℕ) → is_path (graph_of a) path ≡ true → (B : ℕ)
    → count (over B) (revision_of (graph_of a)) a.sets a.ways (accesses_of (graph_of a) path) * whole
    ≤ above B (curve a) * a.ways ^ length (accesses_of (graph_of a) path)
unfolding count
safe a h = let ok = accepted a h in safe_from a ok (start a.sets a.ways) refl (machine_start (graph_of a) ok)

-- Safe from a used cache. The same where the input names the first revision or the warm start: the machine may then begin with any contents, as long as there are as many
-- sets and ways as the input says and no block is in two ways of a set.
pub safe_used : (a : Asked) → verdict_says (verdict a) ≡ 0 → starts_empty (graph_of a) ≡ false
    → (c : Cache) → Built a.sets a.ways c → c.misses ≡ 0 → (path : List ℕ) → is_path (graph_of a) path ≡ true → (B : ℕ)
    → count_from (over B) (revision_of (graph_of a)) a.ways c (accesses_of (graph_of a) path) * whole
    ≤ above B (curve a) * a.ways ^ length (accesses_of (graph_of a) path)
safe_used a h any c built fresh = let ok = accepted a h in safe_from a ok c fresh (machine_used (graph_of a) ok c built fresh any)

-- Near, the second half of point 3. On a straight run from the cold start with every block tracked the excess is at most set aside × N^L.
pub near : (a : Asked) → verdict_says (verdict a) ≡ 0 → a.start ≡ cold → nodes (graph_of a) ≡ 1 → all_tracked a.tracked a.accesses ≡ true → (B : ℕ)
    → above B (curve a) * a.ways ^ length a.accesses
    ≤ count (over B) (revision_of (graph_of a)) a.sets a.ways a.accesses * whole + (finished a).kept.aside * a.ways ^ length a.accesses
unfolding count
near a h o one all B =
    let ok = accepted a h in
    rw (count_over (revision_of (graph_of a)) a.tracked B a.ways (start a.sets a.ways) a.accesses)
    (⊎_elim
    (λ e. rw e (omega (arith, mul-le-mul_right (a.ways ^ length a.accesses) (le_trans (above_total B (curve a)) (le_of_eq (curve_whole a ok))))))
    (λ l. omega (arith, l, machine_even (graph_of a) ok (cold_filled (graph_of a) ok o) a.accesses all (one_where (over_is B))))
    (near_straight a ok one B))

-- Exact. Where nothing is set aside on such a run, the curve is the machine's: for every budget B
-- (units above B) × N^L = (choice sequences with more misses than B) × 2^48.
pub exact : (a : Asked) → verdict_says (verdict a) ≡ 0 → a.start ≡ cold → nodes (graph_of a) ≡ 1 → all_tracked a.tracked a.accesses ≡ true
    → (finished a).kept.aside ≡ 0 → (B : ℕ)
    → above B (curve a) * a.ways ^ length a.accesses ≡ count (over B) (revision_of (graph_of a)) a.sets a.ways a.accesses * whole
exact a h o one all none B =
    le_antisymm (omega (arith, near a h o one all B, ap (λ (n : ℕ). n * a.ways ^ length a.accesses) none))
    (rw (one_run a (accepted a h) one) at (safe a h (0 ∷ []) (one_path a one) B))

-- Whole. Units always total 2^48, those of the curve's lost state included, and no state has more misses than the longest path has accesses.
pub whole_curve : (a : Asked) → verdict_says (verdict a) ≡ 0 → (total (curve a) ≡ whole) × (largest (curve a) ≤ longest (graph_of a))
whole_curve a h = let ok = accepted a h in (curve_whole a ok, curve_within a ok)

-- ---- in cycles: L are the accesses of the longest path, handed in with the curve, k is the number of a core

-- Safe in cycles. For every accepted graph, every path, core and cycle budget B, with the path's own cycles:
-- (choice sequences that take more cycles than B) × 2^48 ≤ (units above B in cycles) × N^(accesses of the path).
pub safe_cycles : (a : Asked) → verdict_says (verdict a) ≡ 0 → (L : ℕ) → L ≡ longest (graph_of a) → (path : List ℕ) → is_path (graph_of a) path ≡ true
    → (k : ℕ) → k < length cores → (B : ℕ)
    → count (over_cycles (core_at k) (length (accesses_of (graph_of a) path)) B) (revision_of (graph_of a)) a.sets a.ways (accesses_of (graph_of a) path) * whole
    ≤ above_cycles (core_at k) L B (curve a) * a.ways ^ length (accesses_of (graph_of a) path)
unfolding count
safe_cycles a h L e path p k known =
    let ok = accepted a h in
    cycles_safe (core_at k) (miss_above_hit_lem k known) (revision_of (graph_of a)) L a.ways (start a.sets a.ways) refl (accesses_of (graph_of a) path)
    (rw e (no_longer (graph_of a) ok path p)) (curve a) (curve_whole a ok) (rw e (curve_within a ok)) (safe a h path p)

-- and from a used cache
pub safe_cycles_used : (a : Asked) → verdict_says (verdict a) ≡ 0 → starts_empty (graph_of a) ≡ false
    → (c : Cache) → Built a.sets a.ways c → c.misses ≡ 0 → (L : ℕ) → L ≡ longest (graph_of a) → (path : List ℕ) → is_path (graph_of a) path ≡ true
    → (k : ℕ) → k < length cores → (B : ℕ)
    → count_from (over_cycles (core_at k) (length (accesses_of (graph_of a) path)) B) (revision_of (graph_of a)) a.ways c (accesses_of (graph_of a) path) * whole
    ≤ above_cycles (core_at k) L B (curve a) * a.ways ^ length (accesses_of (graph_of a) path)
safe_cycles_used a h any c built fresh L e path p k known =
    let ok = accepted a h in
    cycles_safe (core_at k) (miss_above_hit_lem k known) (revision_of (graph_of a)) L a.ways c fresh (accesses_of (graph_of a) path)
    (rw e (no_longer (graph_of a) ok path p)) (curve a) (curve_whole a ok) (rw e (curve_within a ok)) (safe_used a h any c built fresh path p)

-- Near in cycles. On a straight run from the cold start with every block tracked the excess is at most set aside × N^L.
pub near_cycles : (a : Asked) → verdict_says (verdict a) ≡ 0 → a.start ≡ cold → nodes (graph_of a) ≡ 1 → all_tracked a.tracked a.accesses ≡ true
    → (L : ℕ) → L ≡ longest (graph_of a) → (k : ℕ) → k < length cores → (B : ℕ)
    → above_cycles (core_at k) L B (curve a) * a.ways ^ length a.accesses
    ≤ count (over_cycles (core_at k) (length a.accesses) B) (revision_of (graph_of a)) a.sets a.ways a.accesses * whole
    + (finished a).kept.aside * a.ways ^ length a.accesses
unfolding count
near_cycles a h o one all L e k known =
    let ok = accepted a h in
    let alone = longest_straight (graph_of a) ok one in
    rw (e ∙ alone)
    (cycles_tight (core_at k) (miss_above_hit_lem k known) (revision_of (graph_of a)) (length a.accesses) a.ways (start a.sets a.ways) refl a.accesses
    (le_refl (length a.accesses)) (curve a) (curve_whole a ok) (rw (← alone) (curve_within a ok)) (finished a).kept.aside (near a h o one all))
