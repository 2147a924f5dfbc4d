-- A question in cycles: what is refused, and what is worked out where nothing is. Then the core is one in service, the longest path has at most 4,096 accesses, and the row
-- has no units at more misses than that. So no number wraps, and what `cycles` works out from a miss budget is what is asked.
use Rattle.std.specs.Prelude.{Err, Ok}
use mathlib.Core.Path.{◌≡◌, sym, ap, ◌∙◌}
use mathlib.Core.Bool.{true, false, ◌||◌, not}
use mathlib.Core.List.{List}
use Prim.Native.Nat.{ℕ, ◌*◌, ◌-◌, ◌/◌, ◌≤◌, ◌<◌}
use native.Mathlib.Nat.{le_trans, le_of_eq}
use borrow.Author.Tests.{ltb-true, ltb-false, lt-ltb, le-ltb, not-false}
use lib.Dec.{ltb}
use lib.ListN.{length}
use Rattle.basics.specs.Sums.{sum_over}
use Rattle.basics.proofs.Bools.{or_right, not_left, not_right}
use Rattle.rules.specs.declared.Core.{Core}
use Rattle.rules.specs.declared.State.{State}
use Rattle.rules.specs.declared.Refusal.{Refusal}
use Rattle.rules.specs.declared.Refusal.TheVariants.{NoCore, Accesses, Row}
use Rattle.rules.specs.Answers.{first, verdict_says}
use Rattle.rules.specs.Units.{whole, units}
use Rattle.rules.specs.Table.{total}
use Rattle.rules.specs.Questions.{largest, above, smallest_budget}
use Rattle.rules.specs.Cycles.{cores, core_at, cycles_of, above_cycles, smallest_cycles}
use Rattle.rules.proofs.Refusals.{none_applies}
use Rattle.rules.proofs.Questions.{smallest_most}
use Rattle.rules.proofs.Cycles.{miss_above_hit_lem, small_cycles, hits_most, above_cycles_all, above_cycles_is, smallest_cycles_none, smallest_cycles_is}
use Rattle.row_questions.specs.Row.{states_of, is_row, row_cycle_reasons, row_above_cycles, row_cycle_budget}
use Rattle.row_questions.proofs.Standing.{total_row}
use Rattle.row_questions.proofs.Answered.{row_total}

module _ (row : List ℕ) (k L : ℕ) where
  -- 16
  pub no_core : length cores ≤ k → first (row_cycle_reasons k L row) ≡ Err NoCore
  unfolding row_cycle_reasons
  no_core h = rw (le-ltb k (length cores) h)

  module _ (known : k < length cores) where
    -- 4
    pub long_path : 4096 < L → first (row_cycle_reasons k L row) ≡ Err Accesses
    unfolding row_cycle_reasons
    long_path h = rw (lt-ltb k (length cores) known, lt-ltb 4096 L h)

    module _ (few : L ≤ 4096) where
      -- 7
      by_row : (not (is_row row) || ltb L (largest (states_of row))) ≡ true → first (row_cycle_reasons k L row) ≡ Err Row
      unfolding row_cycle_reasons
      by_row h = rw (lt-ltb k (length cores) known, le-ltb 4096 L few, h)

      pub no_row : is_row row ≡ false → first (row_cycle_reasons k L row) ≡ Err Row
      no_row h = by_row (rw h)

      pub row_beyond : L < largest (states_of row) → first (row_cycle_reasons k L row) ≡ Err Row
      row_beyond h = by_row (or_right (not (is_row row)) _ (lt-ltb L (largest (states_of row)) h))

      -- none
      pub cycles_accepted : is_row row ≡ true → largest (states_of row) ≤ L → first (row_cycle_reasons k L row) ≡ Ok tt
      unfolding row_cycle_reasons
      cycles_accepted h l = rw (lt-ltb k (length cores) known, le-ltb 4096 L few, h, le-ltb L (largest (states_of row)) l)

  -- what is known where nothing is refused
  pub record Answerable : Type 0 where
    pub known : k < length cores
    pub few : L ≤ 4096
    pub is_row_lem : is_row row ≡ true
    pub inside : largest (states_of row) ≤ L

  pub answerable : first (row_cycle_reasons k L row) ≡ Ok tt → Answerable
  unfolding row_cycle_reasons
  answerable h =
      let (core, (long, (bad, _))) = none_applies (row_cycle_reasons k L row) (ap verdict_says h) in
      record {
        known = ltb-true k (length cores) (not-false _ core);
        few = ltb-false 4096 L long;
        is_row_lem = not-false _ (not_left (not (is_row row)) (ltb L (largest (states_of row))) bad);
        inside = ltb-false L (largest (states_of row)) (not_right (not (is_row row)) (ltb L (largest (states_of row))) bad);
      }

  module _ (h : first (row_cycle_reasons k L row) ≡ Ok tt) where
    pub above_cycles_answered : (B u : ℕ) → u ≡ above_cycles (core_at k) L B (states_of row) → Ok (units u) ≡ row_above_cycles row k L B
    unfolding row_above_cycles
    above_cycles_answered B u e = rw (h, e)

    pub cycle_budget_answered : (u B : ℕ) → B ≡ smallest_cycles (core_at k) L u (states_of row) → Ok B ≡ row_cycle_budget row k L u
    unfolding row_cycle_budget
    cycle_budget_answered u B e = rw (h, e)

  module _ (r : Refusal) (h : first (row_cycle_reasons k L row) ≡ Err r) where
    pub above_cycles_refused : (B : ℕ) → Err r ≡ row_above_cycles row k L B
    unfolding row_above_cycles
    above_cycles_refused B = rw h

    pub cycle_budget_refused : (u : ℕ) → Err r ≡ row_cycle_budget row k L u
    unfolding row_cycle_budget
    cycle_budget_refused u = rw h

-- ---- where nothing is refused

module _ (row : List ℕ) (k L : ℕ) (accepted : first (row_cycle_reasons k L row) ≡ Ok tt) where
  abbrev T : List State
  T = states_of row

  ok : Answerable row k L
  ok = answerable row k L accepted

  dearer : (core_at k).hit < (core_at k).miss
  dearer = miss_above_hit_lem k ok.known

  pub totals_whole : total T ≡ whole
  totals_whole = total_row 0 row ∙ row_total row ok.is_row_lem

  pub row_whole : sum_over (λ n. n) row ≤ whole
  row_whole = le_of_eq (row_total row ok.is_row_lem)

  module _ (c : Core) (is : c ≡ core_at k) where
    pub miss_dearer : c.hit < c.miss
    miss_dearer = rw is dearer

    pub least_fits : L * c.hit ≤ 4096 * 100
    least_fits = rw is (hits_most k L ok.few)

    -- ---- the units above a budget

    pub some_above : (B : ℕ) → L * c.hit ≤ B → (m : ℕ) → m ≡ (B - L * c.hit) / (c.miss - c.hit) → (u : ℕ) → u ≡ above m T → u ≡ above_cycles (core_at k) L B T
    some_above B h m paid u e = e ∙ rw (paid, is) (sym (above_cycles_is (core_at k) dearer L B T (rw is at h) ok.inside))

    pub all_above : (B : ℕ) → B < L * c.hit → whole ≡ above_cycles (core_at k) L B T
    all_above B h = sym (above_cycles_all (core_at k) dearer L B T (rw is at h) ok.inside ∙ totals_whole)

    -- ---- the smallest budget

    module _ (u m : ℕ) (smallest : m ≡ smallest_budget u T) where
      pub cycles_fit : (c.hit ≤ 100) × (c.miss ≤ 100) × (L ≤ 4096) × (m ≤ L)
      cycles_fit = rw (is, smallest) ((small_cycles k).0, (small_cycles k).1, ok.few, le_trans (smallest_most u T) ok.inside)

      pub some_needed : u < whole → (n : ℕ) → n ≡ cycles_of c L m → n ≡ smallest_cycles (core_at k) L u T
      some_needed h n e = (rw (is, smallest) at e) ∙ sym (smallest_cycles_is (core_at k) dearer L u T (rw totals_whole h) ok.inside)

  pub none_needed : (u : ℕ) → whole ≤ u → 0 ≡ smallest_cycles (core_at k) L u T
  none_needed u h = sym (smallest_cycles_none (core_at k) dearer L u T (rw totals_whole h))
