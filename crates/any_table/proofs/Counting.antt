-- The units at each count: what the loops of `largest` and `fill` compute. The room holds what stands at each count among the states so far. Then what a
-- spread leaves. The states are T, of which there are m.
use mathlib.Core.Path.{◌≡◌, refl, sym, ap, ◌∙◌}
use mathlib.Core.Bool.{Bool, true, ◌&&◌}
use mathlib.Core.List.{List, [], ◌∷◌, ◌++◌}
use Prim.Native.Nat.{ℕ, suc, ◌+◌, ◌-◌, ◌≤◌, ◌<◌, max}
use native.Mathlib.Nat.{max-zero}
use native.Mathlib.Numerals.{add-one}
use native.Mathlib.Omega.{arith}
use borrow.Author.Tests.{le-ltb, eq-eqb, eqb-true}
use lib.Dec.{eqb, leb}
use lib.ListN.{length, get_or, set, take, drop, replicate, length-replicate, take-append-drop}
use lib.Seq.{take-suc, take_all}
use Rattle.basics.proofs.Bools.{and_right}
use Rattle.basics.proofs.Sums.{sum_append}
use Rattle.rules.specs.Units.{whole}
use Rattle.rules.specs.AnyTable.{Listing, total, at}
use Rattle.rules.specs.Ordered.{rises}
use Rattle.rules.specs.Counts.{units_at, largest, counts_below, spread}
use Rattle.rules.proofs.Counts.{count_most, units_most, units_more, length_counts, counts_at, counts_none, counts_more, counts_beyond}
use Rattle.any_table.specs.Accepted.{all_fitting, is_table_of, spread_left}
use Rattle.any_table.proofs.Fitting.{state_next, state_end}

max_assoc : (a b c : ℕ) → max (max a b) c ≡ max a (max b c)
max_assoc a b c = omega arith

module _ {A : Type 0} (l : Listing A) (count : A → ℕ) where
  abbrev counts : ℕ → List A → List ℕ
  counts n T = counts_below l.units count n T

  -- ---- the room at first

  -- a cleared room holds what stands at each count among no states
  pub cleared : (ns : List ℕ) (n : ℕ) → ns ≡ replicate n 0 → ns ≡ counts (length ns) []
  cleared ns n e = e ∙ rw (e, length-replicate {A = ℕ} n 0) (sym (counts_none l.units count n))

  module _ (T : List A) (m : ℕ) (long_m : length T ≡ m) (i : ℕ) where
    -- ---- the largest

    module _ (most : ℕ) (rest : max most (largest count (drop i T)) ≡ largest count T) where
      pub largest_next : i < m → (s : A) → s ≡ at l T i → (k : ℕ) → k ≡ count s → (j : ℕ) → j ≡ max most k
          → max j (largest count (drop (i + 1) T)) ≡ largest count T
      unfolding largest
      largest_next h s e k g j f =
          rw (f, g, e, max_assoc most (count (at l T i)) (largest count (drop (i + 1) T)))
          (state_next l T m long_m i (λ T. max most (largest count T)) (largest count T) rest h)

      pub largest_end : m ≤ i → most ≡ largest count T
      unfolding largest
      largest_end h = sym (max-zero most) ∙ state_end l T m long_m i (λ T. max most (largest count T)) (largest count T) rest h

    -- ---- the room

    module _ (n : ℕ) (ns : List ℕ) (so_far : ns ≡ counts n (take i T)) where
      module _ (h : i < m) (s : A) (e : s ≡ at l T i) where
        one_more_lem : take (i + 1) T ≡ take i T ++ (s ∷ [])
        one_more_lem = rw (add-one i, e) (take-suc T i l.none (omega (arith, long_m)))

        total_take : total l (take (i + 1) T) ≤ total l T
        unfolding total
        total_take = omega (arith, sum_append l.units (take (i + 1) T) (drop (i + 1) T), ap (total l) (take-append-drop (i + 1) T))

        module _ (long : largest count T < n) where
          pub has_place : count s < n
          has_place = rw e (omega (arith, count_most l.units count l.none T i (omega (arith, long_m))))

          -- together they are units of the table
          pub has_room_lem : total l T ≤ whole → get_or ns (count s) 0 + l.units s ≤ whole
          unfolding total
          has_room_lem w =
              let at : get_or ns (count s) 0 ≡ units_at l.units count (count s) (take i T) = ap (λ (ns : List ℕ). get_or ns (count s) 0) so_far ∙ counts_at l.units count n (take i T) (count s) has_place in
              let sum : units_at l.units count (count s) (take (i + 1) T) ≡ units_at l.units count (count s) (take i T) + l.units s =
              ap (units_at l.units count (count s)) one_more_lem ∙ units_more l.units count (count s) (take i T) s ∙ rw (eq-eqb (count s) (count s) refl) in
              omega (arith, units_most l.units count (count s) (take (i + 1) T), total_take)

          pub counts_next : (k u : ℕ) → k ≡ count s → u ≡ l.units s → (ms : List ℕ) → ms ≡ set ns k (get_or ns k 0 + u) → ms ≡ counts n (take (i + 1) T)
          counts_next k u p q ms f =
              f ∙ rw (p, q, so_far) (counts_more l.units count n (take i T) s has_place) ∙ ap (counts n) (sym one_more_lem)

      pub counts_end : m ≤ i → ns ≡ counts n T
      counts_end h = so_far ∙ ap (counts n) (take_all i T (omega (arith, long_m)))

  -- ---- the spread, and zeros behind it

  pub spread_room : (T : List A) (n : ℕ) → largest count T < n → counts n T ≡ spread l.units count T ++ replicate (n - length (spread l.units count T)) 0
  unfolding spread
  spread_room T n h =
      let long : length (counts (suc (largest count T)) T) ≡ suc (largest count T) = length_counts l.units count (suc (largest count T)) T in
      let all : (n - suc (largest count T)) + suc (largest count T) ≡ n = omega arith in
      rw long (ap (λ (k : ℕ). counts k T) (sym all) ∙ counts_beyond l.units count (n - suc (largest count T)) (suc (largest count T)) T (omega arith))

-- a table's units total WHOLE
pub table_total : {A : Type 0} (l : Listing A) (fits : A → Bool) (T : List A) → is_table_of l fits T ≡ true → total l T ≡ whole
unfolding is_table_of
table_total l fits T h =
    eqb-true (total l T) whole (and_right (leb 1 (length T) && leb (length T) 64 && rises l.order T && all_fitting fits T) (eqb (total l T) whole) h)

-- what is left in a room where a spread is given
pub room_filled : {A : Type 0} (l : Listing A) (fits : A → Bool) (count : A → ℕ) (T : List A) (room : List ℕ) → is_table_of l fits T ≡ true
    → largest count T < length room → (ns : List ℕ) → ns ≡ counts_below l.units count (length room) T
    → ns ≡ spread_left l fits count T room
room_filled l fits count T room good h ns e = rw (good, le-ltb (length room) (suc (largest count T)) h) (e ∙ spread_room l count T (length room) h)
