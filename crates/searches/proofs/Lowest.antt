-- The state of fewest units: the least units of a stretch of states, of two stretches and of four states; and the first state that has the least of all.
use mathlib.Core.Path.{◌≡◌, refl, sym, ap}
use mathlib.Core.List.{List}
use Prim.Native.Nat.{ℕ, ◌+◌, ◌≤◌, ◌<◌, min}
use native.Mathlib.Nat.{le_refl}
use native.Mathlib.Decide.{ℕ_discrete, dec_lt, dec_le}
use native.Mathlib.Omega.{arith}
use lib.ListN.{length, take}
use lib.Seq.{get_or-take, length-take-le}
use borrow.Author.Tests.{lt-ltb, le-ltb}
use Rattle.rules.specs.declared.State.{State}
use Rattle.rules.specs.Ordered.{best}
use Rattle.rules.specs.Table.{units_of, no_state, state_at}
use Rattle.rules.specs.Fold.{fewer}
use Rattle.rules.proofs.Partners.{first_best}
use Rattle.searches.specs.Least.{Fewest, Lowest}

module _ (T : List State) where
  pub fewest_one : (i j u : ℕ) → j ≡ i + 1 → u ≡ units_of (state_at T i) → Fewest T i j u
  fewest_one i j u next e =
      record {
        each = λ q l k. let p : q ≡ i = omega arith in rw (p, e) (le_refl _);
        has = i;
        from = le_refl i;
        to = omega arith;
        units = sym e;
      }

  -- two stretches, one behind the other: u is the least of the first, and v that of the second
  module _ (i j k u v : ℕ) (a : Fewest T i j u) (b : Fewest T j k v) where
    fewest_first : u ≤ v → Fewest T i k u
    fewest_first l =
        record {
          each = λ q m n. go q m n (dec_lt q j);
          has = a.has;
          from = a.from;
          to = omega (arith, a.to, b.from, b.to);
          units = a.units;
        }
      where
        go : (q : ℕ) → i ≤ q → q < k → Dec (q < j) → u ≤ units_of (state_at T q)
        go q m n (yes d) = a.each q m d
        go q m n (no d) = omega (arith, l, b.each q (omega (arith, d)) n)

    fewest_second : v ≤ u → Fewest T i k v
    fewest_second l =
        record {
          each = λ q m n. go q m n (dec_lt q j);
          has = b.has;
          from = omega (arith, a.from, a.to, b.from);
          to = b.to;
          units = b.units;
        }
      where
        go : (q : ℕ) → i ≤ q → q < k → Dec (q < j) → v ≤ units_of (state_at T q)
        go q m n (yes d) = omega (arith, l, a.each q m d)
        go q m n (no d) = b.each q (omega (arith, d)) n

    fewest_both : (r : ℕ) → r ≡ min u v → Fewest T i k r
    fewest_both r e = go (dec_le u v)
      where
        go : Dec (u ≤ v) → Fewest T i k r
        go (yes l) = let d : r ≡ u = omega arith in rw d (fewest_first l)
        go (no l) = let d : r ≡ v = omega arith in rw d (fewest_second (omega (arith, l)))

  -- four states
  pub fewest_four : (i : ℕ) (s t u v : State) → s ≡ state_at T i → t ≡ state_at T (i + 1) → u ≡ state_at T (i + 2) → v ≡ state_at T (i + 3)
      → (r : ℕ) → r ≡ min (min (units_of s) (units_of t)) (min (units_of u) (units_of v)) → Fewest T i (i + 4) r
  fewest_four i s t u v p q x y =
      fewest_both i (i + 2) (i + 4) _ _
      (fewest_both i (i + 1) (i + 2) _ _ (fewest_one i (i + 1) _ refl (ap units_of p)) (fewest_one (i + 1) (i + 2) _ (omega arith) (ap units_of q)) _ refl)
      (fewest_both (i + 2) (i + 3) (i + 4) _ _ (fewest_one (i + 2) (i + 3) _ (omega arith) (ap units_of x)) (fewest_one (i + 3) (i + 4) _ (omega arith) (ap units_of y)) _ refl)

  pub lowest_start : (u : ℕ) → u ≡ units_of (state_at T 0) → Lowest T 1 u 0
  lowest_start u e = (fewest_one 0 1 u refl e, λ q l. absurd (omega arith))

  -- v is the least of the next states
  module _ (i j u v f : ℕ) (h : Lowest T i u f) (b : Fewest T i j v) where
    pub lowest_less : v < u → Lowest T j v i
    lowest_less l = (b, λ q m. go q m (dec_lt q f))
      where
        go : (q : ℕ) → q < i → Dec (q < f) → v < units_of (state_at T q)
        go q m (yes d) = omega (arith, l, h.1 q d)
        go q m (no d) = omega (arith, l, h.0.each q (omega (arith, d)) m)

    pub lowest_more : u ≤ v → Lowest T j u f
    lowest_more l = (fewest_first f i j u v h.0 b l, h.1)

  -- the first of those that have it stands at place i or behind it
  module _ (n u i : ℕ) (h : Lowest T n u i) where
    pub lowest_within : i < n
    lowest_within = omega (arith, h.0.from, h.0.to)

    module _ (s : State) (is : s ≡ state_at T i) where
      pub lowest_turn : u < units_of s → Lowest T n u (i + 1)
      lowest_turn l = (
        record {
          each = λ q m. h.0.each q (omega arith);
          has = h.0.has;
          from = go (ℕ_discrete h.0.has i);
          to = h.0.to;
          units = h.0.units;
        },
        λ q m. ahead q m (dec_lt q i),
      )
        where
          more : u < units_of (state_at T i)
          more = rw is at l

          go : Dec (h.0.has ≡ i) → i + 1 ≤ h.0.has
          go (yes e) = absurd (omega (arith, more, h.0.units, ap (λ p. units_of (state_at T p)) e))
          go (no d) = omega (arith, d, h.0.from)

          ahead : (q : ℕ) → q < i + 1 → Dec (q < i) → u < units_of (state_at T q)
          ahead q m (yes d) = h.1 q d
          ahead q m (no d) = let e : q ≡ i = omega (arith, d) in rw e more

      -- it is that one: the first that reaches a bound of all is the first best
      pub lowest_found : n ≤ length T → units_of s ≤ u → best fewer (take n T) ≡ i
      lowest_found room l =
          first_best fewer no_state (take n T) i
          record {
            within = omega (arith, long, lowest_within);
            ahead = λ q m. rw (here i lowest_within, here q (omega (arith, lowest_within))) (lt-ltb (units_of (state_at T i)) (units_of (state_at T q)) (omega (arith, least, h.1 q m)));
            behind = λ q m k. rw (here i lowest_within, here q (omega (arith, long))) (le-ltb (units_of (state_at T q)) (units_of (state_at T i)) (omega (arith, least, h.0.each q (omega arith) (omega (arith, long)))));
          }
        where
          long : length (take n T) ≡ n
          long = length-take-le n T room

          here : (q : ℕ) → q < n → state_at (take n T) q ≡ state_at T q
          here q m = get_or-take n T q no_state m

          least : units_of (state_at T i) ≤ u
          least = rw is at l
