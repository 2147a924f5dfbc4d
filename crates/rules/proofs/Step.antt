-- One access. Its worth, for every N and every weight: what the table is worth to the access ahead, against N times what it is
-- worth after it; so the units stay as many as they were. Its shape: no contents of more than N blocks, one miss more at most, at
-- most N + 1 states listed for each before adding.
use mathlib.Core.Path.{◌≡◌, refl, ap, ap₂, ◌∙◌}
use mathlib.Core.Logic.{◌≢◌}
use mathlib.Core.Bool.{Bool, true, false, cond, ◌||◌}
use mathlib.Core.List.{List, [], ◌∷◌, ◌++◌, map, flat_map}
use Prim.Native.Nat.{ℕ, suc, ◌+◌, ◌-◌, ◌*◌, ◌/◌, ◌%◌, ◌^◌, ◌≤◌, ◌<◌}
use native.Mathlib.Nat.{le_step, suc-le-suc_iff, div-add-mod, eq_of_mul-eq-mul_left}
use native.Mathlib.Decide.{dec_lt}
use native.Mathlib.Omega.{arith}
use lib.Dec.{eqb}
use lib.ListN.{length, length-map}
use lib.Pow.{pow_pos}
use borrow.Author.Tests.{eqb-true, eq-eqb}
use Rattle.basics.specs.Sums.{sum_over}
use Rattle.basics.proofs.Sums.{sum_append, sum_map, sum_times, sum_each, on_none}
use Rattle.rules.specs.Contents.{places, Target, bit, hits, with, without, held, size}
use Rattle.rules.specs.Filling.{Filled, fill_one}
use Rattle.rules.specs.Units.{whole}
use Rattle.rules.specs.AnyTable.{total as total_of, access as access_of}
use Rattle.rules.specs.Table.{State, units_of, listing, present, total}
use Rattle.rules.specs.Step.{at_risk, missed, rest_of, miss, successors, left_over, access}
use Rattle.rules.specs.Shape.{Every, Aimed, Room, Loose}
use Rattle.rules.proofs.Lists.{every_append, every_map, every_weaker}
use Rattle.rules.proofs.Bits.{bit_zero}
use Rattle.rules.proofs.Contents.{sum_held, size_zero, every_held, with_lt, without_lt}
use Rattle.rules.proofs.Sets.{risk_sub, room_joined, room_moved, room_alone}
use Rattle.rules.proofs.Listings.{length_follow}
use Rattle.rules.proofs.Table.{length_present_append, length_present, Weight, worth_of, worth, worth_add, total_add, one, worth_total}

-- ---- worth

-- g summed over the N ways of a set: a way that holds e of E leaves C without e, every other way leaves C
abbrev pub over_ways : ℕ → ℕ → ℕ → (ℕ → ℕ) → ℕ
over_ways N C E g = sum_over (λ e. g (without C e)) (held E) + (N - size E) * g C

-- what contents C with m misses and F filled are worth before an access of x, summed over the N ways, where f says what they are worth
-- after it
abbrev pub ahead : ℕ → Target → Weight → Weight
ahead N x f C m F =
    cond (hits x C) (N * f C m F) (over_ways N C (at_risk N x F C) (λ D. f (with D x.place) (suc m) (fill_one N x.set F)))

-- where no block can go, every way leaves C
pub over_ways_none : (N C : ℕ) (g : ℕ → ℕ) → over_ways N C 0 g ≡ N * g C
over_ways_none N C g =
    ap₂ (λ (a b : ℕ). a + (N - b) * g C) (sum_held (λ e. g (without C e)) 0 ∙ on_none places (bit 0) (λ e. g (without C e)) (λ i l. bit_zero i)) size_zero
    ∙ ring (N - 0) (omega arith)
  where
    ring : (d : ℕ) → d ≡ N → 0 + d * g C ≡ N * g C
    ring d e = rw e (omega arith)

module _ (N : ℕ) (x : Target) (f : Weight) where
  -- ahead of a state, and of the units that are left over
  abbrev pub ahead_of : State → ℕ
  ahead_of s = ahead N x f s.mask s.misses s.filled

  abbrev pub alone : State → ℕ
  alone s = f (with 0 x.place) (suc s.misses) (fill_one N x.set s.filled)

  worth_miss : (s : State) → worth f (miss N x s)
      ≡ over_ways N s.mask (at_risk N x s.filled s.mask) (λ D. f (with D x.place) (suc s.misses) (fill_one N x.set s.filled)) * (units_of s / N)
      + units_of s % N * f (with (rest_of s.mask (at_risk N x s.filled s.mask)) x.place) (suc s.misses) (fill_one N x.set s.filled)
  unfolding miss
  worth_miss s =
      sum_append (worth_of f) (map (λ e. missed N x s (without C e) q) (held E)) _
      ∙ ap₂ ◌+◌ (sum_map (worth_of f) (λ e. missed N x s (without C e) q) (held E) ∙ sum_times q (λ e. g (without C e)) (held E)) refl
      ∙ ring (N - size E) (sum_over (λ e. g (without C e)) (held E)) (g C) (units_of s % N * g (rest_of C E))
    where
      C : ℕ
      C = s.mask

      E : ℕ
      E = at_risk N x s.filled C

      q : ℕ
      q = units_of s / N

      g : ℕ → ℕ
      g D = f (with D x.place) (suc s.misses) (fill_one N x.set s.filled)

      ring : (d S y r : ℕ) → S * q + (d * q * y + (r + 0)) ≡ (S + d * y) * q + r
      ring d S y r = omega arith

  worth_successors : (s : State)
      → N * worth f (successors N x s) + left_over N x s * ahead_of s ≡ units_of s * ahead_of s + N * (left_over N x s * alone s)
  unfolding successors left_over
  worth_successors s = go (hits x C) (eqb E 0) refl
    where
      C : ℕ
      C = s.mask

      E : ℕ
      E = at_risk N x s.filled C

      q : ℕ
      q = units_of s / N

      r : ℕ
      r = units_of s % N

      g : ℕ → ℕ
      g D = f (with D x.place) (suc s.misses) (fill_one N x.set s.filled)

      S : ℕ
      S = over_ways N C E g

      y : ℕ
      y = f C s.misses s.filled

      all : N * q + r ≡ units_of s
      all = div-add-mod (units_of s) N

      -- where no block can be lost, each way gives the same
      even : (S G : ℕ) → S ≡ N * G → N * (S * q + r * G) + 0 * S ≡ (N * q + r) * S + N * (0 * alone s)
      even S G e = rw e (omega arith)

      ring : (R : ℕ) → N * (S * q + r * R) + r * S ≡ (N * q + r) * S + N * (r * R)
      ring R = omega arith

      go : (a z : Bool) → eqb E 0 ≡ z
          → N * worth f (cond a (s ∷ []) (miss N x s)) + cond (a || z) 0 r * cond a (N * y) S
          ≡ units_of s * cond a (N * y) S + N * (cond (a || z) 0 r * alone s)
      go true z e = omega arith
      go false true e =
          rw (worth_miss s, e)
          (even S (g C) (ap (λ (A : ℕ). over_ways N C A g) (eqb-true E 0 e) ∙ over_ways_none N C g)
          ∙ ap (λ (u : ℕ). u * S + N * (0 * alone s)) all)
      go false false e = rw (worth_miss s, e) (ring (alone s) ∙ ap (λ (u : ℕ). u * S + N * (r * alone s)) all)

  -- all states' successors, before adding
  worth_all : (T : List State)
      → N * worth f (flat_map (successors N x) T) + sum_over (λ s. left_over N x s * ahead_of s) T
      ≡ worth (ahead N x f) T + N * sum_over (λ s. left_over N x s * alone s) T
  unfolding flat_map
  worth_all [] = omega arith
  worth_all (s ∷ T) =
      omega (
        arith,
        worth_all T,
        worth_successors s,
        ap (N *◌) (sum_append (worth_of f) (successors N x s) (flat_map (successors N x) T)),
      )

-- ---- the total

-- no contents hold more blocks of the accessed set than it has ways
abbrev pub Fits : ℕ → Target → List State → Type 0
Fits N x T = Every (λ s. size (at_risk N x s.filled s.mask) ≤ N) T

-- the ways that are left, as a number of its own, so that no difference is multiplied
pub others : (N n : ℕ) → n ≤ N → (r : ℕ) × (N ≡ n + r) × (N - n ≡ r)
others N n h = (N - n, omega arith, refl)

-- the same number for each way
pub over_ways_each : (N C E y : ℕ) → size E ≤ N → over_ways N C E (λ D. y) ≡ N * y
unfolding size
over_ways_each N C E y h =
    let (r, e, d) = others N (length (held E)) h in
    rw d (omega (arith, sum_each y (held E), ap (λ (n : ℕ). n * y) e))

ahead_one : (N : ℕ) (x : Target) (C m : ℕ) (F : Filled) → size (at_risk N x F C) ≤ N → ahead N x one C m F ≡ N
ahead_one N x C m F h = go (hits x C)
  where
    go : (a : Bool) → cond a (N * 1) (over_ways N C (at_risk N x F C) (λ D. 1)) ≡ N
    go true = omega arith
    go false = over_ways_each N C (at_risk N x F C) 1 h ∙ omega arith

module _ (N : ℕ) (x : Target) (some : 0 < N) where
  -- all units go on
  pub one_total : (s : State) → size (at_risk N x s.filled s.mask) ≤ N → total (successors N x s) ≡ units_of s
  one_total s h =
      rw (← worth_total (successors N x s))
      (eq_of_mul-eq-mul_left N some _ _
      (omega (
        arith,
        worth_successors N x one s,
        ap (units_of s *◌) (ahead_one N x s.mask s.misses s.filled h),
        ap (left_over N x s *◌) (ahead_one N x s.mask s.misses s.filled h),
      )))

  successors_total : (T : List State) → Fits N x T → total (flat_map (successors N x) T) ≡ total T
  unfolding total_of flat_map
  successors_total [] h = refl
  successors_total (s ∷ T) h =
      sum_append units_of (successors N x s) (flat_map (successors N x) T) ∙ omega (arith, one_total s h.0, successors_total T h.1)

  module _ (T : List State) (fits : Fits N x T) (full : total T ≤ whole) where
    room_to_add : total (flat_map (successors N x) T) + total [] ≤ whole
    unfolding total_of
    room_to_add = omega (arith, successors_total T fits)

    -- what the table is worth to the access ahead, and N times what it is worth after it
    pub worth_access : (f : Weight)
        → N * worth f (access N x T) + sum_over (λ s. left_over N x s * ahead_of N x f s) T
        ≡ worth (ahead N x f) T + N * sum_over (λ s. left_over N x s * alone N x f s) T
    unfolding access_of
    worth_access f =
        let added : worth f (access N x T) ≡ worth f (flat_map (successors N x) T) + worth f [] = worth_add f (flat_map (successors N x) T) [] room_to_add in
        omega (arith, ap (N *◌) added, worth_all N x f T)

    pub access_total : total (access N x T) ≡ total T
    unfolding access_of total_of
    access_total = total_add (flat_map (successors N x) T) [] room_to_add ∙ omega (arith, successors_total T fits)

-- ---- shape

module _ (N Z : ℕ) (ts : List ℕ) (M : ℕ) (x : Target) (some : 0 < N) (few : N ≤ 16) (aim : Aimed Z ts x) where
  -- a state of the list, if it has units
  abbrev After : State → Type 0
  After t = units_of t ≢ 0 → Loose N Z ts (suc M) t

  missed_loose : (s : State) (C u : ℕ) → s.misses ≤ M → C < 2 ^ length ts → Room N Z ts (with C x.place) (fill_one N x.set s.filled)
      → Loose N Z ts (suc M) (missed N x s C u)
  missed_loose s C u m c r = record { masked = with_lt (length ts) C x.place c aim.placed; few = suc-le-suc_iff.1 m; small = r }

  -- where units go to contents that lose nothing, there is a way that holds none of them
  left : (E q : ℕ) → (N - size E) * q ≢ 0 → size E < N
  left E q n = go (dec_lt (size E) N)
    where
      full : (d : ℕ) → d ≡ 0 → d * q ≡ 0
      full d e = rw e (omega arith)

      go : Dec (size E < N) → size E < N
      go (yes l) = l
      go (no l) = absurd (n (full (N - size E) (omega arith)))

  pub successors_loose : (s : State) → Loose N Z ts M s → Every After (successors N x s)
  unfolding successors miss
  successors_loose s h = go (hits x s.mask)
    where
      C : ℕ
      C = s.mask

      E : ℕ
      E = at_risk N x s.filled C

      q : ℕ
      q = units_of s / N

      lost : Every After (map (λ e. missed N x s (without C e) q) (held E))
      lost =
          every_map (λ e. (e < places) × (bit E e ≡ true)) After (λ e. missed N x s (without C e) q)
          (λ e p n. missed_loose s (without C e) q h.few (without_lt (length ts) C e h.masked (risk_sub N x s.filled C e p.1))
          (room_moved N Z ts few x aim C e s.filled h.small p.0 p.1))
          (held E) (every_held E)

      kept : After (missed N x s C ((N - size E) * q))
      kept n = missed_loose s C _ h.few h.masked (room_joined N Z ts few x aim C s.filled h.small (left E q n))

      rest : After (missed N x s (rest_of C E) (units_of s % N))
      rest n = where_to (eqb E 0) refl
        where
          where_to : (z : Bool) → eqb E 0 ≡ z → Loose N Z ts (suc M) (missed N x s (cond z C 0) (units_of s % N))
          where_to true e =
              missed_loose s C _ h.few h.masked
              (room_joined N Z ts few x aim C s.filled h.small (omega (arith, ap size (eqb-true E 0 e), size_zero)))
          where_to false e = missed_loose s 0 _ h.few (pow_pos (length ts)) (room_alone N Z ts few x aim some C s.filled h.small)

      go : (a : Bool) → Every After (cond a (s ∷ []) (map (λ e. missed N x s (without C e) q) (held E) ++ missed N x s C ((N - size E) * q) ∷ missed N x s (rest_of C E) (units_of s % N) ∷ []))
      go true = (λ n. record { masked = h.masked; few = le_step h.few; small = h.small }, tt)
      go false = every_append After (map (λ e. missed N x s (without C e) q) (held E)) _ lost (kept, (rest, tt))

-- ---- how many are listed

module _ (N : ℕ) (x : Target) where
  length_successors : (s : State) → size (at_risk N x s.filled s.mask) ≤ N → length (present (successors N x s)) ≤ suc N
  unfolding successors miss size
  length_successors s h = go (hits x s.mask)
    where
      C : ℕ
      C = s.mask

      E : ℕ
      E = at_risk N x s.filled C

      q : ℕ
      q = units_of s / N

      lost : List State
      lost = map (λ e. missed N x s (without C e) q) (held E)

      kept : State
      kept = missed N x s C ((N - size E) * q)

      rest : State
      rest = missed N x s (rest_of C E) (units_of s % N)

      -- where all ways hold a block of E, no units go to contents that lose nothing
      gone : (d : ℕ) → d ≡ 0 → eqb (d * q) 0 ≡ true
      gone d e = rw e (eq-eqb (0 * q) 0 (omega arith))

      last : Dec (size E < N) → length (held E) + length (present (kept ∷ rest ∷ [])) ≤ suc N
      last (yes l) = omega (arith, length_present (kept ∷ rest ∷ []))
      last (no l) = rw (gone (N - size E) (omega arith)) (omega (arith, length_present (rest ∷ [])))

      go : (a : Bool) → length (present (cond a (s ∷ []) (lost ++ kept ∷ rest ∷ []))) ≤ suc N
      go true = omega (arith, length_present (s ∷ []))
      go false =
          omega (
            arith,
            length_present_append lost (kept ∷ rest ∷ []),
            length_present lost,
            length-map (held E) (λ e. missed N x s (without C e) q),
            last (dec_lt (size E) N),
          )

  -- at most N + 1 for each state, 17 with 16 ways
  pub length_access : (T : List State) → Fits N x T → length (present (flat_map (successors N x) T)) ≤ length T * suc N
  length_access T h =
      length_follow listing (suc N) (successors N x) T
      (every_weaker (λ s. size (at_risk N x s.filled s.mask) ≤ N) (λ s. length (present (successors N x s)) ≤ suc N) length_successors T h)
