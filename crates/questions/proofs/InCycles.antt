-- A question in cycles that is not refused: the core is one in service, the longest path has at most 4,096 accesses, and the states are a table with no
-- more misses than that. So no number wraps, and what `cycles` works out from a miss budget is what is asked.
use Rattle.std.specs.Prelude.{Ok}
use mathlib.Core.Path.{◌≡◌, sym, ◌∙◌}
use mathlib.Core.List.{List}
use Prim.Native.Nat.{ℕ, ◌*◌, ◌-◌, ◌/◌, ◌≤◌, ◌<◌}
use native.Mathlib.Nat.{le_trans}
use Rattle.rules.specs.declared.Core.{Core}
use Rattle.rules.specs.declared.State.{State}
use Rattle.rules.specs.Answers.{first}
use Rattle.rules.specs.Units.{whole}
use Rattle.rules.specs.Table.{total}
use Rattle.rules.specs.Questions.{above, smallest_budget}
use Rattle.rules.specs.Cycles.{core_at, cycles_of, above_cycles, smallest_cycles, cycle_reasons}
use Rattle.rules.proofs.Questions.{table_total, smallest_most}
use Rattle.rules.proofs.Cycles.{Answerable, answerable, miss_above_hit_lem, small_cycles, hits_most, above_cycles_all, above_cycles_is, smallest_cycles_none, smallest_cycles_is}

module _ (T : List State) (k L : ℕ) (accepted : first (cycle_reasons k L T) ≡ Ok tt) where
  ok : Answerable T k L
  ok = answerable T k L accepted

  dearer : (core_at k).hit < (core_at k).miss
  dearer = miss_above_hit_lem k ok.known

  pub totals_whole : total T ≡ whole
  totals_whole = table_total T ok.table

  module _ (c : Core) (is : c ≡ core_at k) where
    pub miss_dearer : c.hit < c.miss
    miss_dearer = rw is dearer

    pub least_fits : L * c.hit ≤ 4096 * 100
    least_fits = rw is (hits_most k L ok.few)

    -- ---- the units above a budget

    pub some_above : (B : ℕ) → L * c.hit ≤ B → (m : ℕ) → m ≡ (B - L * c.hit) / (c.miss - c.hit) → (u : ℕ) → u ≡ above m T → u ≡ above_cycles (core_at k) L B T
    some_above B h m paid u e = e ∙ rw (paid, is) (sym (above_cycles_is (core_at k) dearer L B T (rw is at h) ok.inside))

    pub all_above : (B : ℕ) → B < L * c.hit → whole ≡ above_cycles (core_at k) L B T
    all_above B h = sym (above_cycles_all (core_at k) dearer L B T (rw is at h) ok.inside ∙ totals_whole)

    -- ---- the smallest budget

    module _ (u m : ℕ) (smallest : m ≡ smallest_budget u T) where
      pub cycles_fit : (c.hit ≤ 100) × (c.miss ≤ 100) × (L ≤ 4096) × (m ≤ L)
      cycles_fit = rw (is, smallest) ((small_cycles k).0, (small_cycles k).1, ok.few, le_trans (smallest_most u T) ok.inside)

      pub some_needed : u < whole → (n : ℕ) → n ≡ cycles_of c L m → n ≡ smallest_cycles (core_at k) L u T
      some_needed h n e = (rw (is, smallest) at e) ∙ sym (smallest_cycles_is (core_at k) dearer L u T (rw totals_whole h) ok.inside)

  pub none_needed : (u : ℕ) → whole ≤ u → 0 ≡ smallest_cycles (core_at k) L u T
  none_needed u h = sym (smallest_cycles_none (core_at k) dearer L u T (rw totals_whole h))
