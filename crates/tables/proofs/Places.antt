-- The next place whose block is held, found by counting zeros: a bit set behind the sixteen ends the count there. A number has zeros below its lowest set digit, which
-- is set; and what has the first of the places found so is none other.
use mathlib.Core.Path.{◌≡◌, refl, sym, ap, ◌∙◌}
use mathlib.Core.Logic.{◌⊎◌, inl, inr}
use mathlib.Core.Bool.{Bool, true, false, cond, ◌||◌, true≢false}
use Prim.Native.Nat.{ℕ, zero, suc, ◌+◌, ◌-◌, ◌/◌, ◌%◌, ◌^◌, ◌≤◌, ◌<◌}
use lib.Pow.{shr-shr}
use native.Mathlib.Nat.{div-eq_of_lt-le, pow-succ'}
use native.Mathlib.Decide.{dec_lt}
use native.Mathlib.Omega.{arith}
use lib.Bits.{bit_or, or_lt}
use lib.Count.{count_trailing_zeros, under, count_leading_zeros, leading_top}
use lib.Dec.{eqb, lit<}
use borrow.Author.Tests.{ne_eqb, eq-eqb, eqb-true}
use Rattle.rules.specs.Contents.{bit}
use Rattle.rules.proofs.Bits.{bit_low, bit_rest, bit_or_lem, bit_zero, bit_pow, bit_beyond}
use Rattle.tables.specs.Following.{first_held, next_held, top_held}

-- ---- zeros below the lowest set digit

-- they are zeros
zeros_below : (k n j : ℕ) → j < count_trailing_zeros k n → bit n j ≡ false
unfolding count_trailing_zeros
zeros_below zero n j l = absurd (omega arith)
zeros_below (suc k) n j l = go (zeros_below k (n / 2)) (n % 2) refl j l
  where
    go : ((i : ℕ) → i < count_trailing_zeros k (n / 2) → bit (n / 2) i ≡ false) → (d : ℕ) → n % 2 ≡ d → (j : ℕ) → j < under d (count_trailing_zeros k (n / 2)) → bit n j ≡ false
    go rest zero e zero l = bit_low n ∙ ap (λ (d : ℕ). eqb d 1) e
    go rest zero e (suc j) l = bit_rest n j ∙ rest j (omega arith)
    go rest (suc d) e j l = absurd (omega arith)

-- and the digit above them is set
digit_set : (k n : ℕ) → count_trailing_zeros k n < k → bit n (count_trailing_zeros k n) ≡ true
unfolding count_trailing_zeros
digit_set zero n l = absurd (omega arith)
digit_set (suc k) n l = go (digit_set k (n / 2)) (n % 2) refl l
  where
    go : (count_trailing_zeros k (n / 2) < k → bit (n / 2) (count_trailing_zeros k (n / 2)) ≡ true) → (d : ℕ) → n % 2 ≡ d → under d (count_trailing_zeros k (n / 2)) < suc k → bit n (under d (count_trailing_zeros k (n / 2))) ≡ true
    go rest zero e l = bit_rest n (count_trailing_zeros k (n / 2)) ∙ rest (omega arith)
    go rest (suc zero) e l = bit_low n ∙ ap (λ (d : ℕ). eqb d 1) e
    go rest (suc (suc d)) e l = absurd (omega arith)

-- ---- the first place

-- r is the first of n places from place e on: none before it is held, and it is, or there is none
first_is : (C n e r : ℕ) → e ≤ r → r ≤ e + n → ((i : ℕ) → e ≤ i → i < r → bit C i ≡ false) → (r ≡ e + n) ⊎ (bit C r ≡ true) → first_held C n e ≡ r
unfolding first_held
first_is C zero e r low high none end = omega arith
first_is C (suc n) e r low high none end = go (λ l. first_is C n (suc e) r l (omega arith) (λ i m. none i (omega arith))) (dec_lt e r) end
  where
    go : (e < r → (r ≡ suc e + n) ⊎ (bit C r ≡ true) → first_held C n (suc e) ≡ r) → Dec (e < r) → (r ≡ e + suc n) ⊎ (bit C r ≡ true)
        → cond (bit C e) e (first_held C n (suc e)) ≡ r
    go rest (yes l) (inl past) = rw (none e (omega arith) l) (rest l (inl (omega arith)))
    go rest (yes l) (inr held) = rw (none e (omega arith) l) (rest l (inr held))
    go rest (no n) (inl past) = absurd (omega arith)
    go rest (no n) (inr held) = let same : e ≡ r = omega arith in rw (ap (bit C) same ∙ held) same

-- ---- the sixteen places, and a bit set behind them

or_with : (a : Bool) {b c : Bool} → b ≡ c → (a || b) ≡ (a || c)
or_with a e = ap (a ||◌) e

or_true : (a : Bool) → (a || true) ≡ true
or_true true = refl
or_true false = refl

or_false : (a : Bool) → (a || false) ≡ a
or_false true = refl
or_false false = refl

module _ (C e : ℕ) (l : e < 16) where
  abbrev D : ℕ
  D = bit_or C 65536

  abbrev zeros : ℕ
  zeros = count_trailing_zeros 64 (D / 2 ^ e)

  -- a digit of what is shifted
  shifted : (i : ℕ) → bit (D / 2 ^ e) i ≡ bit D (e + i)
  unfolding bit
  shifted i = ap (λ (n : ℕ). eqb (n % 2) 1) (shr-shr D e i)

  end_set : bit D 16 ≡ true
  end_set = bit_or_lem 16 C 65536 ∙ or_with (bit C 16) (bit_pow 16 16) ∙ or_true (bit C 16)

  as_before : (i : ℕ) → i < 16 → bit D i ≡ bit C i
  as_before i m = bit_or_lem i C 65536 ∙ or_with (bit C i) (bit_pow 16 i ∙ ne_eqb 16 i (λ s. omega arith)) ∙ or_false (bit C i)

  -- the count ends at that bit
  few : zeros ≤ 16 - e
  few = go (dec_lt (16 - e) zeros)
    where
      go : Dec (16 - e < zeros) → zeros ≤ 16 - e
      go (yes m) = absurd (true≢false (sym end_set ∙ ap (bit D) (omega arith) ∙ sym (shifted (16 - e)) ∙ zeros_below 64 (D / 2 ^ e) (16 - e) m))
      go (no n) = omega arith

  pub next_found : e + zeros ≡ next_held C e
  next_found = sym (first_is C (16 - e) e (e + zeros) (omega arith) (omega (arith, few)) none (end (dec_lt (e + zeros) 16)))
    where
      none : (i : ℕ) → e ≤ i → i < e + zeros → bit C i ≡ false
      none i low high = sym (as_before i (omega (arith, few))) ∙ ap (bit D) (omega arith) ∙ sym (shifted (i - e)) ∙ zeros_below 64 (D / 2 ^ e) (i - e) (omega arith)

      end : Dec (e + zeros < 16) → (e + zeros ≡ e + (16 - e)) ⊎ (bit C (e + zeros) ≡ true)
      end (yes m) = inr (sym (as_before (e + zeros) m) ∙ sym (shifted zeros) ∙ digit_set 64 (D / 2 ^ e) (omega (arith, few)))
      end (no n) = inl (omega (arith, few))

  pub zeros_few : zeros ≤ 16
  zeros_few = omega (arith, few)

-- where all sixteen are passed
pub next_past : (C e : ℕ) → 16 ≤ e → next_held C e ≡ e
unfolding first_held
next_past C e l = let none : 16 - e ≡ 0 = omega arith in rw none refl

-- ---- where it lies

first_within : (C n e : ℕ) → (e ≤ first_held C n e) × (first_held C n e ≤ e + n)
unfolding first_held
first_within C zero e = (omega arith, omega arith)
first_within C (suc n) e = go (bit C e) (first_within C n (suc e))
  where
    go : (b : Bool) → (suc e ≤ first_held C n (suc e)) × (first_held C n (suc e) ≤ suc e + n)
        → (e ≤ cond b e (first_held C n (suc e))) × (cond b e (first_held C n (suc e)) ≤ e + suc n)
    go true h = (omega arith, omega arith)
    go false h = (omega (arith, h.0), omega (arith, h.1))

-- the next place is none before e, and at most 16 where e is
pub next_on : (C e : ℕ) → e ≤ next_held C e
next_on C e = (first_within C (16 - e) e).0

pub next_within : (C e : ℕ) → e ≤ 16 → next_held C e ≤ 16
next_within C e l = omega (arith, (first_within C (16 - e) e).1)

-- ---- the highest place

-- j is the highest of n places: it is held, and none above it is
top_is : (n C j : ℕ) → j < n → bit C j ≡ true → ((i : ℕ) → j < i → i < n → bit C i ≡ false) → top_held n C ≡ j
unfolding top_held
top_is zero C j l held none = absurd (omega arith)
top_is (suc n) C j l held none = go (dec_lt j n) (λ m. top_is n C j m held (λ i a b. none i a (omega arith)))
  where
    go : Dec (j < n) → (j < n → top_held n C ≡ j) → cond (bit C n) n (top_held n C) ≡ j
    go (yes m) rest = rw (none n m (omega arith)) (rest m)
    go (no m) rest = let same : j ≡ n = omega arith in rw (ap (bit C) (sym same) ∙ held) (sym same)

top_none : (n C : ℕ) → ((i : ℕ) → i < n → bit C i ≡ false) → top_held n C ≡ 0
unfolding top_held
top_none zero C none = refl
top_none (suc n) C none = rw (none n (omega arith)) (top_none n C (λ i l. none i (omega arith)))

-- where a place is held, the highest is
pub top_held_lem : (n C i : ℕ) → i < n → bit C i ≡ true → (bit C (top_held n C) ≡ true) × (top_held n C < n)
unfolding top_held
top_held_lem zero C i l h = absurd (omega arith)
top_held_lem (suc n) C i l h = go (bit C n) refl (λ m. top_held_lem n C i m h)
  where
    go : (b : Bool) → bit C n ≡ b → (i < n → (bit C (top_held n C) ≡ true) × (top_held n C < n)) → (bit C (cond b n (top_held n C)) ≡ true) × (cond b n (top_held n C) < suc n)
    go true e rest = (e, omega arith)
    go false e rest = low (dec_lt i n)
      where
        low : Dec (i < n) → (bit C (top_held n C) ≡ true) × (top_held n C < suc n)
        low (yes m) = ((rest m).0, omega (arith, (rest m).1))
        low (no m) = absurd (true≢false (sym h ∙ ap (bit C) (omega arith) ∙ e))

pub top_below : (n C : ℕ) → top_held (suc n) C ≤ n
unfolding top_held
top_below zero C = go (bit C 0)
  where
    go : (b : Bool) → cond b 0 0 ≤ 0
    go true = omega arith
    go false = omega arith
top_below (suc n) C = go (bit C (suc n)) (top_below n C)
  where
    go : (b : Bool) → top_held (suc n) C ≤ n → cond b (suc n) (top_held (suc n) C) ≤ suc n
    go true h = omega arith
    go false h = omega arith

-- found by counting zeros: one more bit, the lowest, leaves the highest where it is, or is it
module _ (C : ℕ) (fits : C < 2 ^ 64) where
  abbrev A : ℕ
  A = bit_or C 1

  abbrev leading : ℕ
  leading = count_leading_zeros 64 A

  lowest : bit A 0 ≡ true
  lowest = bit_or_lem 0 C 1 ∙ or_with (bit C 0) (bit_pow 0 0) ∙ or_true (bit C 0)

  some : 0 < A
  some = go (dec_lt 0 A)
    where
      go : Dec (0 < A) → 0 < A
      go (yes l) = l
      go (no n) = let none : A ≡ 0 = omega arith in absurd (true≢false (sym lowest ∙ ap (λ (a : ℕ). bit a 0) none ∙ bit_zero 0))

  abbrev found : (j : ℕ) × (leading + suc j ≡ 64) × (2 ^ j ≤ A) × (A < 2 ^ suc j)
  found = leading_top 64 A some (or_lt 64 C 1 fits (lit< tt))

  pub leading_few : leading ≤ 63
  leading_few = omega (arith, found.1)

  -- the digit found is set in A
  set_there : bit A found.0 ≡ true
  unfolding bit
  set_there = eq-eqb (A / 2 ^ found.0 % 2) 1 (ap (◌% 2) (div-eq_of_lt-le {k = 1} (2 ^ found.0) (omega (arith, found.2)) (omega (arith, found.3, pow-succ' 2 found.0))))

  above : (i : ℕ) → found.0 < i → bit C i ≡ false
  above i l = go (bit C i) (sym (bit_or_lem i C 1) ∙ bit_beyond (suc found.0) A i found.3 l)
    where
      go : (b : Bool) → (b || bit 1 i) ≡ false → b ≡ false
      go true e = absurd (true≢false e)
      go false e = refl

  pub top_found : 63 - leading ≡ top_held 64 C
  top_found = omega (arith, found.1) ∙ sym (go (bit C found.0) refl)
    where
      go : (b : Bool) → bit C found.0 ≡ b → top_held 64 C ≡ found.0
      go true e = top_is 64 C found.0 (omega (arith, found.1)) e (λ i l m. above i l)
      go false e = top_none 64 C none ∙ sym first
        where
          -- then it is the bit that was set
          first : found.0 ≡ 0
          first = sym (eqb-true 0 found.0 (sym (bit_pow 0 found.0) ∙ sym (ap (◌|| bit 1 found.0) e) ∙ sym (bit_or_lem found.0 C 1) ∙ set_there))

          none : (i : ℕ) → i < 64 → bit C i ≡ false
          none zero l = ap (bit C) (sym first) ∙ e
          none (suc i) l = above (suc i) (omega (arith, first))
