-- How a search goes on by one place, where what is left gives the whole; and what a whole search finds.
use mathlib.Core.Path.{◌≡◌, refl, sym, ◌∙◌}
use mathlib.Core.Logic.{◌≢◌, ◌⊎◌, inl, inr}
use mathlib.Core.Bool.{Bool, true, false, cond, true≢false}
use mathlib.Core.List.{List}
use Prim.Native.Nat.{ℕ, zero, suc, ◌+◌, ◌-◌, ◌≤◌, ◌<◌}
use native.Mathlib.Nat.{eq-or-lt_of_le}
use native.Mathlib.Numerals.{add-one}
use native.Mathlib.Omega.{arith}
use lib.Dec.{eqb}
use borrow.Author.Tests.{eq-eqb, ne_eqb, eqb-true}
use Rattle.rules.specs.declared.State.{State}
use Rattle.rules.specs.Table.{state_at}
use Rattle.searches.specs.Searches.{first_from, best_until, first_of_mask}

-- n places in all, of which place j is the next
module _ (n j : ℕ) (l : j < n) where
  -- one more place is left than behind it
  one_more_lem : n - j ≡ suc (n - suc j)
  one_more_lem = omega arith

  module _ (test : ℕ → Bool) where
    pub first_here : test j ≡ true → first_from test (n - j) j ≡ j
    unfolding first_from
    first_here e = rw (one_more_lem, e)

    pub first_on : test j ≡ false → first_from test (n - j) j ≡ first_from test (n - (j + 1)) (j + 1)
    unfolding first_from
    first_on e = rw (one_more_lem, e, add-one j)

  module _ (better : ℕ → ℕ → Bool) (enough : ℕ → Bool) (k : ℕ) where
    pub until_enough : enough k ≡ true → best_until better enough (n - j) k j ≡ k
    unfolding best_until
    until_enough e = rw (one_more_lem, e)

    pub until_on : enough k ≡ false → (b : Bool) → better j k ≡ b → best_until better enough (n - j) k j ≡ best_until better enough (n - (j + 1)) (cond b j k) (j + 1)
    unfolding best_until
    until_on e b d = rw (one_more_lem, e, d, add-one j)

-- no place is left
module _ (n j : ℕ) (l : n ≤ j) where
  none_left : n - j ≡ 0
  none_left = omega arith

  pub first_none : (test : ℕ → Bool) → first_from test (n - j) j ≡ j
  unfolding first_from
  first_none test = rw none_left

  pub until_all : (better : ℕ → ℕ → Bool) (enough : ℕ → Bool) (k : ℕ) → best_until better enough (n - j) k j ≡ k
  unfolding best_until
  until_all better enough k = rw none_left

-- back from place i, to the first of the states that have the mask m
module _ (T : List State) (m i : ℕ) where
  pub mask_none : i ≤ 0 → first_of_mask T m i ≡ i
  unfolding first_of_mask
  mask_none l = let e : i ≡ 0 = omega arith in rw e

  module _ (l : 0 < i) where
    last : i ≡ suc (i - 1)
    last = omega arith

    back : (k : ℕ) → i ≡ suc k → first_of_mask T m i ≡ cond (eqb (state_at T k).mask m) (first_of_mask T m k) i
    unfolding first_of_mask
    back k e = rw e

    pub mask_other : (state_at T (i - 1)).mask ≢ m → first_of_mask T m i ≡ i
    mask_other n = back (i - 1) last ∙ rw (ne_eqb _ m n)

    pub mask_back : (state_at T (i - 1)).mask ≡ m → first_of_mask T m i ≡ first_of_mask T m (i - 1)
    mask_back e = back (i - 1) last ∙ rw (eq-eqb _ m e)

-- ---- what a whole search finds

-- r is the first place from i on, before place e, that passes the test, or e
pub record FirstIn (test : ℕ → Bool) (i e r : ℕ) : Type 0 where
  pub from : i ≤ r
  pub to : r ≤ e
  pub ahead : (q : ℕ) → i ≤ q → q < r → test q ≡ false
  pub passes : r < e → test r ≡ true

pub first_in : (test : ℕ → Bool) (f i e : ℕ) → i + f ≡ e → FirstIn test i e (first_from test f i)
unfolding first_from
first_in test zero i e k = record { from = omega arith; to = omega arith; ahead = λ q a b. absurd (omega arith); passes = λ a. absurd (omega arith) }
first_in test (suc f) i e k = go (test i) refl (first_in test f (suc i) e (omega arith))
  where
    go : (b : Bool) → test i ≡ b → FirstIn test (suc i) e (first_from test f (suc i)) → FirstIn test i e (cond b i (first_from test f (suc i)))
    go true p h = record { from = omega arith; to = omega arith; ahead = λ q a b. absurd (omega arith); passes = λ a. p }
    go false p h =
        record { from = omega (arith, h.from); to = h.to; ahead = λ q a b. side q b (eq-or-lt_of_le a); passes = h.passes }
      where
        side : (q : ℕ) → q < first_from test f (suc i) → (i ≡ q) ⊎ (i < q) → test q ≡ false
        side q b (inl a) = rw (← a) p
        side q b (inr a) = h.ahead q a b

-- the states from place r to place i begin with the mask m, if the one at place i has it, and the one before them, if there is one, has another
pub record MaskFrom (T : List State) (m i r : ℕ) : Type 0 where
  pub first : r ≤ i
  pub has : (state_at T i).mask ≡ m → (state_at T r).mask ≡ m
  pub other : 0 < r → (state_at T (r - 1)).mask ≢ m

pub mask_from : (T : List State) (m i : ℕ) → MaskFrom T m i (first_of_mask T m i)
unfolding first_of_mask
mask_from T m zero = record { first = omega arith; has = λ e. e; other = λ l. absurd (omega arith) }
mask_from T m (suc i) = go (eqb (state_at T i).mask m) refl (mask_from T m i)
  where
    go : (b : Bool) → eqb (state_at T i).mask m ≡ b → MaskFrom T m i (first_of_mask T m i) → MaskFrom T m (suc i) (cond b (first_of_mask T m i) (suc i))
    go true p h = record { first = omega (arith, h.first); has = λ e. h.has (eqb-true _ m p); other = h.other }
    go false p h =
        let here : suc i - 1 ≡ i = omega arith in
        record { first = omega arith; has = λ e. e; other = λ l e. true≢false (sym (eq-eqb _ m (rw here at e)) ∙ p) }
