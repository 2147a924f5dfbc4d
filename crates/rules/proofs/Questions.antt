-- The questions, and how their answers stand to each other: no unit is above the largest miss count, and the units above a budget fall as
-- it grows, so that a smallest budget exists; it serves, and none below it does. The spread up to a budget and the units above it make
-- the total. What the work finishes is accepted as a table.
use Rattle.std.specs.Prelude.{Err, Ok}
use mathlib.Core.Path.{◌≡◌, refl, sym, ap, ◌∙◌}
use mathlib.Core.Logic.{◌⊎◌, inl, inr}
use mathlib.Core.Bool.{Bool, true, false, cond, ◌&&◌, true≢false}
use mathlib.Core.List.{List, [], ◌∷◌, ◌++◌}
use Prim.Native.Nat.{ℕ, zero, suc, ◌+◌, ◌-◌, ◌^◌, ◌≤◌, ◌<◌, zero-le}
use native.Mathlib.Nat.{le_refl, le_trans, le_antisymm, eq-or-lt_of_le, zero-add, add-zero}
use native.Mathlib.Omega.{arith}
use lib.Dec.{eqb, leb}
use lib.ListN.{length, get_or, set, take, replicate}
use lib.Pow.{pow_mono}
use borrow.Author.Tests.{leb-true, leb-false, eqb-true, lt-ltb, le-ltb, le-leb, lt-leb, eq-eqb}
use Rattle.basics.specs.Sums.{sum_over}
use Rattle.basics.proofs.Bools.{and_left, and_right, both}
use Rattle.rules.specs.declared.Refusal.TheVariants.{Row, SpreadRoom}
use Rattle.rules.specs.Units.{whole, units}
use Rattle.rules.specs.Answers.{outcome_says, amount_says}
use Rattle.rules.specs.Input.{Input, nodes}
use Rattle.rules.specs.Filling.{numbers_of}
use Rattle.rules.specs.AnyTable.{Entries, no_pairings, total as total_of}
use Rattle.rules.specs.Table.{State, no_state, units_of, rising, total, state_at}
use Rattle.rules.specs.Graph.{finished, finished_by}
use Rattle.rules.specs.Counts.{largest as largest_of, spread as spread_of}
use Rattle.rules.specs.Questions.{all_most, misses_of, fitting, all_fitting, is_table, units_at, largest, counts_below, spread, above, least_from, least, smallest_budget, above_answer, budget_answer, spread_answer}
use Rattle.rules.specs.Refusals.{outcome}
use Rattle.rules.specs.Shape.{Every, Shaped, Table}
use Rattle.rules.proofs.Filling.{numbers_most}
use Rattle.rules.proofs.Counts.{part_total as part_total_any, above_largest as above_largest_any, above_most as above_most_any, above_falls as above_falls_any, count_most as count_most_any, units_most as units_most_any, units_more as units_more_any, length_counts as length_counts_any, counts_at as counts_at_any, counts_none as counts_none_any, counts_more as counts_more_any, counts_beyond as counts_beyond_any, counts_take as counts_take_any, counts_above as counts_above_any, spread_above as spread_above_any}
use Rattle.rules.proofs.Refusals.{Checked, accepted}
use Rattle.rules.proofs.Graph.{finished_table, node_table_lem}

-- ---- misses: what Counts shows of any count

pub part_total : (p : ℕ → Bool) (T : List State) → sum_over (λ s. cond (p s.misses) (units_of s) 0) T ≤ total T
unfolding total_of
part_total p T = part_total_any units_of misses_of p T

pub above_largest : (B : ℕ) (T : List State) → largest T ≤ B → above B T ≡ 0
above_largest B T h = above_largest_any units_of misses_of B T h

pub above_most : (B : ℕ) (T : List State) → above B T ≤ total T
unfolding total_of
above_most B T = above_most_any units_of misses_of B T

pub above_falls : (A B : ℕ) (T : List State) → A ≤ B → above B T ≤ above A T
above_falls A B T h = above_falls_any units_of misses_of A B T h

pub misses_most : (T : List State) (i : ℕ) → i < length T → (state_at T i).misses ≤ largest T
misses_most T i h = count_most_any units_of misses_of no_state T i h

pub units_most : (m : ℕ) (T : List State) → units_at m T ≤ total T
unfolding total_of
units_most m T = units_most_any units_of misses_of m T

pub units_more : (m : ℕ) (T : List State) (s : State) → units_at m (T ++ (s ∷ [])) ≡ units_at m T + cond (eqb s.misses m) (units_of s) 0
units_more m T s = units_more_any units_of misses_of m T s

pub length_counts : (n : ℕ) (T : List State) → length (counts_below n T) ≡ n
length_counts n T = length_counts_any units_of misses_of n T

pub counts_at : (n : ℕ) (T : List State) (m : ℕ) → m < n → get_or (counts_below n T) m 0 ≡ units_at m T
counts_at n T m h = counts_at_any units_of misses_of n T m h

pub counts_none : (n : ℕ) → counts_below n [] ≡ replicate n 0
counts_none n = counts_none_any units_of misses_of n

pub counts_more : (n : ℕ) (T : List State) (s : State) → s.misses < n
    → set (counts_below n T) s.misses (get_or (counts_below n T) s.misses 0 + units_of s) ≡ counts_below n (T ++ (s ∷ []))
counts_more n T s h = counts_more_any units_of misses_of n T s h

pub counts_beyond : (k n : ℕ) (T : List State) → largest T < n → counts_below (k + n) T ≡ counts_below n T ++ replicate k 0
counts_beyond k n T h = counts_beyond_any units_of misses_of k n T h

pub counts_take : (k n : ℕ) (T : List State) → take n (counts_below (k + n) T) ≡ counts_below n T
counts_take k n T = counts_take_any units_of misses_of k n T

pub counts_above : (B : ℕ) (T : List State) → sum_over (λ n. n) (counts_below (suc B) T) + above B T ≡ total T
unfolding total_of
counts_above B T = counts_above_any units_of misses_of B T

pub spread_above : (B : ℕ) (T : List State) → sum_over (λ n. n) (take (suc B) (spread T)) + above B T ≡ total T
unfolding total_of
spread_above B T = spread_above_any units_of misses_of B T

-- ---- the least number that passes a test

module _ (test : ℕ → Bool) where
  from_passes : (n m : ℕ) → test (n + m) ≡ true → test (least_from test n (test m) m) ≡ true
  from_passes zero m h = rw (zero-add m) at h
  from_passes (suc n) m h = go (test m) refl (from_passes n (suc m) (ap test (omega arith) ∙ h))
    where
      go : (b : Bool) → test m ≡ b → test (least_from test n (test (suc m)) (suc m)) ≡ true → test (least_from test (suc n) b m) ≡ true
      go true e ih = e
      go false e ih = ih

  from_least : (n m a : ℕ) → m ≤ a → a < least_from test n (test m) m → test a ≡ false
  from_least zero m a l k = absurd (omega arith)
  from_least (suc n) m a l k = go (test m) refl (from_least n (suc m) a) k
    where
      go : (b : Bool) → test m ≡ b → (suc m ≤ a → a < least_from test n (test (suc m)) (suc m) → test a ≡ false)
          → a < least_from test (suc n) b m → test a ≡ false
      go true e ih k = absurd (omega arith)
      go false e ih k = pick (eq-or-lt_of_le l)
        where
          pick : (m ≡ a) ⊎ (m < a) → test a ≡ false
          pick (inl q) = rw (← q) e
          pick (inr q) = ih q k

  pub least_passes : (n : ℕ) → test n ≡ true → test (least test n) ≡ true
  unfolding least
  least_passes n h = from_passes n 0 (rw (add-zero n) h)

  pub least_least : (n a : ℕ) → a < least test n → test a ≡ false
  unfolding least
  least_least n a k = from_least n 0 a zero-le k

  -- no other passes and has none below it that does
  pub least_only : (n b : ℕ) → test n ≡ true → test b ≡ true → ((a : ℕ) → a < b → test a ≡ false) → b ≡ least test n
  least_only n b h passes none = go (leb b s) (leb s b) refl refl
    where
      s : ℕ
      s = least test n

      go : (p q : Bool) → leb b s ≡ p → leb s b ≡ q → b ≡ s
      go true true p q = le_antisymm (leb-true b s p) (leb-true s b q)
      go true false p q = absurd (true≢false (sym passes ∙ least_least n b (leb-false s b q)))
      go false r p q = absurd (true≢false (sym (least_passes n h) ∙ none s (leb-false b s p)))

pub smallest_serves : (u : ℕ) (T : List State) → above (smallest_budget u T) T ≤ u
unfolding smallest_budget
smallest_serves u T =
    leb-true _ u (least_passes (λ B. leb (above B T) u) (largest T) (le-leb _ u (omega (arith, above_largest (largest T) T (omega arith)))))

pub none_smaller : (u : ℕ) (T : List State) (B : ℕ) → B < smallest_budget u T → u < above B T
unfolding smallest_budget
none_smaller u T B l = leb-false (above B T) u (least_least (λ B. leb (above B T) u) (largest T) B l)

-- it is at most the largest miss count
pub smallest_most : (u : ℕ) (T : List State) → smallest_budget u T ≤ largest T
smallest_most u T = go (leb (smallest_budget u T) (largest T)) refl
  where
    go : (b : Bool) → leb (smallest_budget u T) (largest T) ≡ b → smallest_budget u T ≤ largest T
    go true h = leb-true (smallest_budget u T) (largest T) h
    go false h =
        absurd (omega (
          arith,
          none_smaller u T (largest T) (leb-false (smallest_budget u T) (largest T) h),
          above_largest (largest T) T (le_refl (largest T)),
        ))

-- it is the only one of that kind
pub smallest_is : (u : ℕ) (T : List State) (B : ℕ) → above B T ≤ u → ((A : ℕ) → A < B → u < above A T) → B ≡ smallest_budget u T
unfolding smallest_budget
smallest_is u T B serves none =
    least_only (λ B. leb (above B T) u) (largest T) B (le-leb _ u (omega (arith, above_largest (largest T) T (omega arith))))
    (le-leb (above B T) u serves) (λ A l. lt-leb (above A T) u (none A l))

-- ---- what is accepted as a table

all_fit_lem : (N Z : ℕ) (ts : List ℕ) (M : ℕ) (T : List State) → N ≤ 16 → length ts ≤ 16 → M ≤ 4096 → Every (Shaped N Z ts M) T → all_fitting T ≡ true
all_fit_lem N Z ts M [] n a b h = refl
all_fit_lem N Z ts M (s ∷ T) n a b h =
    both (fitting s) (all_fitting T)
    (both (leb s.mask 65535 && leb s.misses 4096 && all_most 16 (numbers_of s.filled)) _
    (both (leb s.mask 65535 && leb s.misses 4096) _
    (both (leb s.mask 65535) _ (le-leb s.mask 65535 (omega (arith, h.0.0.masked, wide)))
    (le-leb s.misses 4096 (le_trans h.0.0.few b)))
    (numbers_most 16 s.filled (λ j. le_trans (h.0.0.small j).1 n)))
    (le-leb 1 (units_of s) h.0.1))
    (all_fit_lem N Z ts M T n a b h.1)
  where
    wide : 2 ^ length ts ≤ 2 ^ 16
    wide = pow_mono a

pub table_is : (N Z : ℕ) (ts : List ℕ) (K M : ℕ) (T : List State) → N ≤ 16 → length ts ≤ 16 → K ≤ 64 → M ≤ 4096 → Table N Z ts K M T → is_table T ≡ true
unfolding is_table total_of
table_is N Z ts K M T n a b c t =
    both _ (eqb (total T) whole)
    (both _ (all_fitting T)
    (both _ (rising T)
    (both _ (leb (length T) 64) (le-leb 1 (length T) (some T t.full)) (le-leb (length T) 64 (le_trans t.short b)))
    t.rises)
    (all_fit_lem N Z ts M T n a c t.shaped))
    (eq-eqb (total T) whole t.full)
  where
    some : (T : List State) → sum_over units_of T ≡ whole → 1 ≤ length T
    some [] e = absurd (omega arith)
    some (s ∷ T) e = omega arith

-- the finished table of an accepted input, with any pairings: its units total WHOLE, and it is a table
pub good_table : (q : Entries) (i : Input) → Checked i → (total (finished_by q i).table ≡ whole) × (is_table (finished_by q i).table ≡ true)
good_table q i ok = (good.full, table_is _ _ _ _ _ (finished_by q i).table ok.few_ways ok.few_tracked ok.few_states ok.few_accesses good)
  where
    good : Table i.ways i.sets i.tracked i.limit (length i.accesses) (finished_by q i).table
    good = rw (finished_table q i ok.some_nodes) (node_table_lem q i ok (nodes i - 1) (omega (arith, ok.some_nodes)))

pub finished_whole : (i : Input) → (outcome_says (outcome i)).number ≡ 0 → total (finished i).table ≡ whole
finished_whole i h = (good_table no_pairings i (accepted i h)).0

pub finished_is_table : (i : Input) → (outcome_says (outcome i)).number ≡ 0 → is_table (finished i).table ≡ true
finished_is_table i h = (good_table no_pairings i (accepted i h)).1

-- ---- the answers

pub table_total : (T : List State) → is_table T ≡ true → total T ≡ whole
unfolding is_table
table_total T h = eqb-true (total T) whole (and_right (leb 1 (length T) && leb (length T) 64 && rising T && all_fitting T) (eqb (total T) whole) h)

fitting_largest : (T : List State) → all_fitting T ≡ true → largest T ≤ 4096
unfolding largest_of
fitting_largest [] h = zero-le
fitting_largest (s ∷ T) h =
    omega (arith, leb-true s.misses 4096 (search (and_left, and_right)), fitting_largest T (and_right (fitting s) (all_fitting T) h))

pub table_largest : (T : List State) → is_table T ≡ true → largest T ≤ 4096
unfolding is_table
table_largest T h = fitting_largest T (search (and_left, and_right))

-- more than 64 states are no table
pub no_table : (T : List State) → 64 < length T → is_table T ≡ false
unfolding is_table
no_table T l = rw (lt-leb (length T) 64 l) (none (leb 1 (length T)))
  where
    none : (b : Bool) → (b && false && rising T && all_fitting T && eqb (total T) whole) ≡ false
    none true = refl
    none false = refl

module _ (T : List State) where
  pub above_answered : is_table T ≡ true → (B u : ℕ) → u ≡ above B T → Ok (units u) ≡ above_answer T B
  unfolding above_answer
  above_answered h B u e = rw (h, e)

  -- what that says, in document 01's numbers
  pub above_says : is_table T ≡ true → (B : ℕ) → amount_says (above_answer T B) ≡ record { number = 0; value = above B T }
  above_says h B = ap amount_says (sym (above_answered h B (above B T) refl))

  pub budget_answered : is_table T ≡ true → (u B : ℕ) → B ≡ smallest_budget u T → Ok B ≡ budget_answer T u
  unfolding budget_answer
  budget_answered h u B e = rw (h, e)

  -- the whole room is what stands at each miss count that it has a place for
  pub spread_answered : is_table T ≡ true → (room : List ℕ) → largest T < length room → (m : ℕ) → m ≡ largest T → (ns : List ℕ)
      → ns ≡ counts_below (length room) T → record { answer = Ok m; room = ns } ≡ spread_answer T room
  unfolding spread_answer spread_of
  spread_answered h room l m e ns f =
      let long : length room ≡ length room - suc (largest T) + suc (largest T) = omega arith in
      rw (h, le-ltb (length room) (suc (largest T)) l, e)
      (ap (λ (ns : List ℕ). record { answer = Ok (largest T); room = ns })
      (f ∙ ap (λ (n : ℕ). counts_below n T) long ∙ counts_beyond (length room - suc (largest T)) (suc (largest T)) T (le_refl (suc (largest T)))))

  -- 8
  pub spread_short : is_table T ≡ true → (room : List ℕ) → length room ≤ largest T → record { answer = Err SpreadRoom; room = room } ≡ spread_answer T room
  unfolding spread_answer
  spread_short h room l = rw (h, lt-ltb (length room) (suc (largest T)) (omega arith))

  -- 7
  module _ (no : is_table T ≡ false) where
    pub above_refused : (B : ℕ) → Err Row ≡ above_answer T B
    unfolding above_answer
    above_refused B = rw no

    pub budget_refused : (u : ℕ) → Err Row ≡ budget_answer T u
    unfolding budget_answer
    budget_refused u = rw no

    pub spread_refused : (room : List ℕ) → record { answer = Err Row; room = room } ≡ spread_answer T room
    unfolding spread_answer
    spread_refused room = rw no
