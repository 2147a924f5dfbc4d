-- Each stream stands in the order of a table: where a thing happens to two states, their masks, misses and filled numbers change by the same amounts, and so
-- stand to each other as they did. That holds for the loss of one block, for a miss that loses nothing, for one that fills an empty way, and for a hit, each by itself.
use Rattle.std.specs.Prelude.{None, Some}
use mathlib.Core.Path.{◌≡◌, refl, sym, ap, ap₂, ◌∙◌, subst}
use mathlib.Core.Logic.{◌≢◌}
use mathlib.Core.Bool.{Bool, true, false, cond, ◌&&◌, true≢false}
use Prim.Native.Nat.{ℕ, suc, ◌+◌, ◌-◌, ◌/◌, ◌^◌, ◌≤◌, ◌<◌, zero-le}
use native.Mathlib.Nat.{lt_of_le_of_lt, le_refl}
use native.Mathlib.Decide.{dec_lt, ℕ_discrete}
use native.Mathlib.Omega.{arith}
use lib.Bits.{bit_and, and_le_r, or_add_and, xor_add_and, or_zero_l}
use lib.Pow.{pow-lt}
use lib.Dec.{eqb, ltb}
use borrow.Author.Tests.{le-ltb, ltb-true, ltb-false, ne_eqb}
use Rattle.rules.specs.declared.Target.{Target}
use Rattle.rules.specs.declared.State.{State}
use Rattle.rules.specs.Contents.{bit, has, hits, with, without, Place}
use Rattle.rules.specs.Filling.{filled_at, fill_one}
use Rattle.rules.specs.Ordered.{by_number, then_by}
use Rattle.rules.specs.Table.{units_of, order}
use Rattle.rules.specs.Step.{at_risk, missed}
use Rattle.rules.proofs.Bits.{bit_and_lem, bit_pow, bit_zero, bits_same}
use Rattle.rules.proofs.Contents.{without_same}
use Rattle.rules.proofs.Filling.{no_more, more_front, more_back}
use Rattle.rules.proofs.Ordered.{number_cases, number_before, number_same}
use Rattle.rules.proofs.Sets.{risk_full, risk_sub}
use Rattle.estimate.specs.Merging.{losing, kept_of, keeping, filling, hitting, part, Words}

-- ---- one bit of a mask, as an amount

module _ (C i : ℕ) where
  meets_bits : (b : Bool) → bit C i ≡ b → (j : ℕ) → bit (bit_and C (2 ^ i)) j ≡ (b && eqb i j)
  meets_bits b e j = bit_and_lem j C (2 ^ i) ∙ ap (λ (a : Bool). bit C j && a) (bit_pow i j) ∙ go (ℕ_discrete i j)
    where
      none : (a b : Bool) → (a && false) ≡ (b && false)
      none true true = refl
      none true false = refl
      none false true = refl
      none false false = refl

      go : Dec (i ≡ j) → (bit C j && eqb i j) ≡ (b && eqb i j)
      go (yes p) = ap (λ (k : ℕ). bit C k && eqb i j) (sym p) ∙ ap (λ (a : Bool). a && eqb i j) e
      go (no n) = rw (ne_eqb i j n) (none (bit C j) b)

  low : bit_and C (2 ^ i) < 2 ^ suc i
  low = lt_of_le_of_lt (and_le_r C (2 ^ i)) (pow-lt {i = i} (le_refl (suc i)))

  meets_none : bit C i ≡ false → bit_and C (2 ^ i) ≡ 0
  meets_none e = bits_same (suc i) (bit_and C (2 ^ i)) 0 low (lt_of_le_of_lt zero-le low) (λ j l. meets_bits false e j ∙ sym (bit_zero j))

  meets_one : bit C i ≡ true → bit_and C (2 ^ i) ≡ 2 ^ i
  meets_one e = bits_same (suc i) (bit_and C (2 ^ i)) (2 ^ i) low (pow-lt {i = i} (le_refl (suc i))) (λ j l. meets_bits true e j ∙ sym (bit_pow i j))

-- a block that comes in adds the same amount to any contents
with_adds : (C : ℕ) (p : Place) (r : Bool) → has C r p ≡ false → with C p ≡ C + with 0 p
unfolding with
with_adds C (Some i) r h = omega (arith, or_add_and C (2 ^ i), meets_none C i h, or_zero_l (2 ^ i))
with_adds C None r h = omega arith

-- a block that goes takes it
without_takes : (C e : ℕ) → bit C e ≡ true → without C e + 2 ^ e ≡ C
unfolding without
without_takes C e h = omega (arith, xor_add_and C (2 ^ e), meets_one C e h)

-- ---- numbers that change by the same amount

number_moved : (a b c d e f : ℕ) → c + e ≡ a + f → d + e ≡ b + f → by_number c d ≡ by_number a b
number_moved a b c d e f p q =
    number_cases a b (λ o. by_number c d ≡ o) (λ l. number_before c d (omega arith)) (λ l. number_same c d (omega arith))
    (λ l. rw (le-ltb c d (omega arith), ne_eqb c d (λ k. absurd (omega arith))))

order_moved : (s t u v : State) → by_number u.mask v.mask ≡ by_number s.mask t.mask → by_number u.misses v.misses ≡ by_number s.misses t.misses
    → by_number u.filled.front v.filled.front ≡ by_number s.filled.front t.filled.front
    → by_number u.filled.back v.filled.back ≡ by_number s.filled.back t.filled.back → order u v ≡ order s t
unfolding order
order_moved s t u v a b c d = ap₂ then_by (ap₂ then_by a b) (ap₂ then_by c d)

-- the test says no
no_test : (b : Bool) (u : ℕ) → cond b 0 u ≢ 0 → b ≡ false
no_test true u n = absurd (n refl)
no_test false u n = refl

yes_test : (b : Bool) (u : ℕ) → cond b u 0 ≢ 0 → b ≡ true
yes_test true u n = refl
yes_test false u n = absurd (n refl)

-- ---- what happens to two states

module _ (N : ℕ) (few : N ≤ 16) (x : Target) (near : x.set < 16) where
  -- one miss more, contents that changed by the same amounts
  missed_order : (s t : State) (C D a b e f : ℕ) → with C x.place + e ≡ s.mask + f → with D x.place + e ≡ t.mask + f
      → by_number (fill_one N x.set s.filled).front (fill_one N x.set t.filled).front ≡ by_number s.filled.front t.filled.front
      → by_number (fill_one N x.set s.filled).back (fill_one N x.set t.filled).back ≡ by_number s.filled.back t.filled.back
      → order (missed N x s C a) (missed N x t D b) ≡ order s t
  missed_order s t C D a b e f p q g h =
      order_moved s t (missed N x s C a) (missed N x t D b)
      (number_moved s.mask t.mask (with C x.place) (with D x.place) e f p q)
      (number_moved s.misses t.misses (suc s.misses) (suc t.misses) 0 1 (omega arith) (omega arith))
      g h

  -- ways that may all be filled stay so
  module _ (s t : State) (p : N ≤ filled_at s.filled x.set) (q : N ≤ filled_at t.filled x.set) where
    full_front : by_number (fill_one N x.set s.filled).front (fill_one N x.set t.filled).front ≡ by_number s.filled.front t.filled.front
    full_front = rw (no_more N few x.set near s.filled p, no_more N few x.set near t.filled q)

    full_back : by_number (fill_one N x.set s.filled).back (fill_one N x.set t.filled).back ≡ by_number s.filled.back t.filled.back
    full_back = rw (no_more N few x.set near s.filled p, no_more N few x.set near t.filled q)

  -- an empty way that is filled adds the same amount to one word
  module _ (s t : State) (ws : Words s) (wt : Words t) (p : filled_at s.filled x.set < N) (q : filled_at t.filled x.set < N) where
    abbrev Alike : ℕ → Type 0
    Alike j =
        (by_number (fill_one N j s.filled).front (fill_one N j t.filled).front ≡ by_number s.filled.front t.filled.front)
        × (by_number (fill_one N j s.filled).back (fill_one N j t.filled).back ≡ by_number s.filled.back t.filled.back)

    one_filled : Alike x.set
    one_filled = go (dec_lt x.set 8)
      where
        in_front : (j : ℕ) → j < 8 → filled_at s.filled j < N → filled_at t.filled j < N → Alike j
        in_front j l p q =
            rw (more_front N few s.filled ws.0 ws.1 j l p, more_front N few t.filled wt.0 wt.1 j l q)
            (number_moved s.filled.front t.filled.front (s.filled.front + 256 ^ (7 - j)) (t.filled.front + 256 ^ (7 - j)) 0 (256 ^ (7 - j)) (omega arith) (omega arith), refl)

        in_back : (j : ℕ) → j < 8 → filled_at s.filled (8 + j) < N → filled_at t.filled (8 + j) < N → Alike (8 + j)
        in_back j l p q =
            rw (more_back N few s.filled ws.0 ws.1 j l p, more_back N few t.filled wt.0 wt.1 j l q)
            (refl, number_moved s.filled.back t.filled.back (s.filled.back + 256 ^ (7 - j)) (t.filled.back + 256 ^ (7 - j)) 0 (256 ^ (7 - j)) (omega arith) (omega arith))

        there : (k : ℕ) → x.set ≡ k → (filled_at s.filled k < N) × (filled_at t.filled k < N)
        there k e = subst (λ (k : ℕ). (filled_at s.filled k < N) × (filled_at t.filled k < N)) e (p, q)

        go : Dec (x.set < 8) → Alike x.set
        go (yes l) = in_front x.set l p q
        go (no n) =
            let e : x.set ≡ 8 + (x.set - 8) = omega arith in
            let (a, b) = there (8 + (x.set - 8)) e in
            subst (λ (k : ℕ). Alike k) (sym e) (in_back (x.set - 8) (omega arith) a b)

  -- a block lost
  losing_order : (k : ℕ) (s t : State) → units_of (losing N x k s) ≢ 0 → units_of (losing N x k t) ≢ 0 → order (losing N x k s) (losing N x k t) ≡ order s t
  unfolding losing
  losing_order k s t a b =
      missed_order s t (without s.mask k) (without t.mask k) _ _ (2 ^ k) (with 0 x.place) (moves s a) (moves t b)
      (full_front s t (full s a) (full t b)) (full_back s t (full s a) (full t b))
    where
      amount : State → ℕ
      amount s = cond (bit (at_risk N x s.filled s.mask) k) (units_of s / N) 0

      misses : (s : State) → cond (hits x s.mask) 0 (amount s) ≢ 0 → hits x s.mask ≡ false
      misses s n = no_test (hits x s.mask) (amount s) n

      risk : (s : State) → cond (hits x s.mask) 0 (amount s) ≢ 0 → bit (at_risk N x s.filled s.mask) k ≡ true
      risk s n = yes_test (bit (at_risk N x s.filled s.mask) k) (units_of s / N) (λ e. n (rw (misses s n) e))

      full : (s : State) → cond (hits x s.mask) 0 (amount s) ≢ 0 → N ≤ filled_at s.filled x.set
      full s n = (risk_full N x s.filled s.mask k (risk s n)).0

      lacks : (C : ℕ) (p : Place) → has C x.again p ≡ false → bit C k ≡ true → has (without C k) x.again p ≡ false
      lacks C (Some i) h e = without_same C k i (λ q. true≢false (sym e ∙ ap (bit C) q ∙ h)) ∙ h
      lacks C None h e = h

      moves : (s : State) → cond (hits x s.mask) 0 (amount s) ≢ 0 → with (without s.mask k) x.place + 2 ^ k ≡ s.mask + with 0 x.place
      moves s n =
          let e : bit s.mask k ≡ true = risk_sub N x s.filled s.mask k (risk s n) in
          omega (arith, with_adds (without s.mask k) x.place x.again (lacks s.mask x.place (misses s n) e), without_takes s.mask k e)

  -- nothing lost
  keeping_order : (s t : State) → units_of (keeping N x s) ≢ 0 → units_of (keeping N x t) ≢ 0 → order (keeping N x s) (keeping N x t) ≡ order s t
  unfolding keeping
  keeping_order s t a b =
      missed_order s t s.mask t.mask _ _ 0 (with 0 x.place) (moves s a) (moves t b)
      (full_front s t (full s a) (full t b)) (full_back s t (full s a) (full t b))
    where
      amount : State → ℕ
      amount s = cond (ltb (filled_at s.filled x.set) N) 0 (kept_of N (at_risk N x s.filled s.mask) (units_of s))

      misses : (s : State) → cond (hits x s.mask) 0 (amount s) ≢ 0 → hits x s.mask ≡ false
      misses s n = no_test (hits x s.mask) (amount s) n

      full : (s : State) → cond (hits x s.mask) 0 (amount s) ≢ 0 → N ≤ filled_at s.filled x.set
      full s n =
          ltb-false (filled_at s.filled x.set) N
          (no_test (ltb (filled_at s.filled x.set) N) (kept_of N (at_risk N x s.filled s.mask) (units_of s)) (λ e. n (rw (misses s n) e)))

      moves : (s : State) → cond (hits x s.mask) 0 (amount s) ≢ 0 → with s.mask x.place + 0 ≡ s.mask + with 0 x.place
      moves s n = omega (arith, with_adds s.mask x.place x.again (misses s n))

  -- an empty way filled
  filling_order : (s t : State) → Words s → Words t → units_of (filling N x s) ≢ 0 → units_of (filling N x t) ≢ 0 → order (filling N x s) (filling N x t) ≡ order s t
  unfolding filling
  filling_order s t ws wt a b =
      let (f, g) = one_filled s t ws wt (room s a) (room t b) in
      missed_order s t s.mask t.mask _ _ 0 (with 0 x.place) (moves s a) (moves t b) f g
    where
      amount : State → ℕ
      amount s = cond (ltb (filled_at s.filled x.set) N) (units_of s) 0

      misses : (s : State) → cond (hits x s.mask) 0 (amount s) ≢ 0 → hits x s.mask ≡ false
      misses s n = no_test (hits x s.mask) (amount s) n

      room : (s : State) → cond (hits x s.mask) 0 (amount s) ≢ 0 → filled_at s.filled x.set < N
      room s n = ltb-true (filled_at s.filled x.set) N (yes_test (ltb (filled_at s.filled x.set) N) (units_of s) (λ e. n (rw (misses s n) e)))

      moves : (s : State) → cond (hits x s.mask) 0 (amount s) ≢ 0 → with s.mask x.place + 0 ≡ s.mask + with 0 x.place
      moves s n = omega (arith, with_adds s.mask x.place x.again (misses s n))

  hitting_order : (s t : State) → order (hitting x s) (hitting x t) ≡ order s t
  unfolding hitting order
  hitting_order s t = refl

  -- in every stream
  pub part_order : (k : ℕ) (s t : State) → Words s → Words t → units_of (part N x k s) ≢ 0 → units_of (part N x k t) ≢ 0 → order (part N x k s) (part N x k t) ≡ order s t
  unfolding part
  part_order k s t ws wt = go (ltb k 16) (eqb k 16) (eqb k 17)
    where
      pick : Bool → Bool → Bool → State → State
      pick a b c s = cond a (losing N x k s) (cond b (keeping N x s) (cond c (filling N x s) (hitting x s)))

      go : (a b c : Bool) → units_of (pick a b c s) ≢ 0 → units_of (pick a b c t) ≢ 0 → order (pick a b c s) (pick a b c t) ≡ order s t
      go true b c = losing_order k s t
      go false true c = keeping_order s t
      go false false true = filling_order s t ws wt
      go false false false = λ m n. hitting_order s t
