-- What the best case's work finishes is accepted as a table; a row that is none is refused; and the spread of misses or of hits up to a number and the units above it make the total.
use Rattle.std.specs.Prelude.{Err}
use mathlib.Core.Path.{◌≡◌, refl}
use mathlib.Core.Bool.{Bool, true, false, ◌||◌, ◌&&◌}
use mathlib.Core.List.{List, [], ◌∷◌}
use Prim.Native.Nat.{ℕ, ◌+◌, suc, ◌^◌, ◌≤◌, ◌<◌}
use native.Mathlib.Omega.{arith}
use lib.Dec.{eqb, leb}
use lib.ListN.{length, take}
use lib.Pow.{pow_mono}
use borrow.Author.Tests.{le-leb, lt-leb, eq-eqb}
use Rattle.basics.specs.Sums.{sum_over}
use Rattle.basics.proofs.Bools.{both}
use Rattle.rules.specs.declared.Refusal.TheVariants.{Row}
use Rattle.rules.specs.Units.{whole}
use Rattle.rules.specs.Answers.{number_says}
use Rattle.rules.specs.Input.{Input}
use Rattle.rules.specs.Ordered.{rises}
use Rattle.rules.specs.AnyTable.{total, no_pairings}
use Rattle.rules.specs.Best.{BestState, misses_of, hits_of, units_of, order, listing, best_table}
use Rattle.rules.specs.BestQuestions.{best_fitting, all_best_fitting, is_best_table, miss_spread, hit_spread, misses_above, hits_above, miss_spread_answer, hit_spread_answer}
use Rattle.rules.specs.Refusals.{best_outcome}
use Rattle.rules.specs.Shape.{Every, Present, Sound, BestLoose}
use Rattle.rules.proofs.Sets.{aimed}
use Rattle.rules.proofs.Counts.{spread_above}
use Rattle.rules.proofs.AnyTable.{finished_sound}
use Rattle.rules.proofs.Best.{best_start, best_follow}
use Rattle.rules.proofs.Refusals.{BestChecked, best_accepted}

-- every state of a table of the work fits
all_fitting_lem : (N Z : ℕ) (ts : List ℕ) (M : ℕ) (T : List BestState) → length ts ≤ 16 → M ≤ 4096 → Every (Present listing (BestLoose N Z ts M)) T
    → all_best_fitting T ≡ true
all_fitting_lem N Z ts M [] k m h = refl
all_fitting_lem N Z ts M (s ∷ T) k m h =
    let loose = h.0.0 in
    let wide : 2 ^ length ts ≤ 2 ^ 16 = pow_mono k in
    both (best_fitting s) (all_best_fitting T)
    (both (leb s.mask 65535 && (s.exact || eqb s.mask 0) && leb (misses_of s) 4096 && leb (hits_of s) 4096) (leb 1 (units_of s))
    (both (leb s.mask 65535 && (s.exact || eqb s.mask 0) && leb (misses_of s) 4096) (leb (hits_of s) 4096)
    (both (leb s.mask 65535 && (s.exact || eqb s.mask 0)) (leb (misses_of s) 4096)
    (both (leb s.mask 65535) (s.exact || eqb s.mask 0) (le-leb s.mask 65535 (omega (arith, loose.masked, wide))) (go s.exact refl loose.nothing))
    (le-leb (misses_of s) 4096 (omega (arith, loose.few))))
    (le-leb (hits_of s) 4096 (omega (arith, loose.few))))
    (le-leb 1 (units_of s) h.0.1))
    (all_fitting_lem N Z ts M T k m h.1)
  where
    go : (a : Bool) → s.exact ≡ a → (s.exact ≡ false → s.mask ≡ 0) → (a || eqb s.mask 0) ≡ true
    go true e n = refl
    go false e n = eq-eqb s.mask 0 (n e)

-- the finished table of an accepted input
pub best_sound : (i : Input) → BestChecked i
    → Sound listing (BestLoose i.ways i.sets i.tracked (length i.accesses)) i.limit (best_table i)
unfolding best_table
best_sound i ok =
    let c = ok.checked in
    finished_sound no_pairings i c (best_follow i.ways i.sets i.tracked c.some_ways c.few_ways) (best_start i.ways i.sets i.tracked c.few_ways)
    (aimed i.sets i.tracked c.some_sets c.few_sets)

pub best_whole : (i : Input) → (number_says (best_outcome i)).number ≡ 0 → total listing (best_table i) ≡ whole
best_whole i h = (best_sound i (best_accepted i h)).full

pub best_is_table : (i : Input) → (number_says (best_outcome i)).number ≡ 0 → is_best_table (best_table i) ≡ true
unfolding is_best_table total
best_is_table i h =
    let ok = best_accepted i h in
    let t = best_sound i ok in
    let c = ok.checked in
    both (leb 1 (length T) && leb (length T) 64 && _ && all_best_fitting T) (eqb (total listing T) whole)
    (both (leb 1 (length T) && leb (length T) 64 && _) (all_best_fitting T)
    (both (leb 1 (length T) && leb (length T) 64) _
    (both (leb 1 (length T)) (leb (length T) 64) (le-leb 1 (length T) (some T t.full)) (le-leb (length T) 64 (omega (arith, t.short, c.few_states))))
    t.rises)
    (all_fitting_lem i.ways i.sets i.tracked (length i.accesses) T c.few_tracked c.few_accesses t.shaped))
    (eq-eqb (total listing T) whole t.full)
  where
    T : List BestState
    T = best_table i

    some : (T : List BestState) → total listing T ≡ whole → 1 ≤ length T
    some [] e = absurd (omega arith)
    some (s ∷ U) e = omega arith

-- ---- a row that is no table

pub no_best_table : (T : List BestState) → 64 < length T → is_best_table T ≡ false
unfolding is_best_table
no_best_table T l = rw (lt-leb (length T) 64 l) (none (leb 1 (length T)))
  where
    none : (b : Bool) → (b && false && rises order T && all_best_fitting T && eqb (total listing T) whole) ≡ false
    none true = refl
    none false = refl

module _ (T : List BestState) (no : is_best_table T ≡ false) (room : List ℕ) where
  pub miss_spread_refused : record { answer = Err Row; room = room } ≡ miss_spread_answer T room
  unfolding miss_spread_answer
  miss_spread_refused = rw no

  pub hit_spread_refused : record { answer = Err Row; room = room } ≡ hit_spread_answer T room
  unfolding hit_spread_answer
  hit_spread_refused = rw no

-- ---- the spread up to a number, and the units above it

pub misses_spread_above : (B : ℕ) (T : List BestState) → sum_over (λ n. n) (take (suc B) (miss_spread T)) + misses_above B T ≡ total listing T
unfolding miss_spread misses_above total
misses_spread_above B T = spread_above units_of misses_of B T

pub hits_spread_above : (B : ℕ) (T : List BestState) → sum_over (λ n. n) (take (suc B) (hit_spread T)) + hits_above B T ≡ total listing T
unfolding hit_spread hits_above total
hits_spread_above B T = spread_above units_of hits_of B T
