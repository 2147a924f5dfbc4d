-- Which of two states stands after the other: the first of their numbers that differ decides.
use mathlib.Core.Path.{◌≡◌, refl, sym, ap, ◌∙◌}
use mathlib.Core.Bool.{true}
use Prim.Native.Nat.{ℕ}
use native.Mathlib.Omega.{arith}
use lib.Dec.{ltb}
use borrow.Author.Tests.{lt-ltb, le-ltb, ltb-true}
use Rattle.rules.specs.declared.State.{State}
use Rattle.rules.specs.Ordered.{Order, before, same, after, by_number, then_by}
use Rattle.rules.specs.Table.{order}
use Rattle.rules.proofs.Ordered.{number_cases, number_same}
use Rattle.estimate.specs.Placing.{is_after}

-- two numbers that differ decide
apart : (a b : ℕ) (o : Order) → (b ≡ a → ⊥) → is_after (then_by (by_number a b) o) ≡ ltb b a
apart a b o n =
    number_cases a b (λ p. is_after (then_by p o) ≡ ltb b a) (λ l. sym (le-ltb b a (omega arith))) (λ e. absurd (n (sym e))) (λ l. sym (lt-ltb b a l))

-- the last ones decide in any case
last : (a b : ℕ) → is_after (by_number a b) ≡ ltb b a
last a b = number_cases a b (λ p. is_after p ≡ ltb b a) (λ l. sym (le-ltb b a (omega arith))) (λ e. sym (le-ltb b a (omega arith))) (λ l. sym (lt-ltb b a l))

regroup : (o p q : Order) → then_by (then_by o p) q ≡ then_by o (then_by p q)
regroup before p q = refl
regroup same p q = refl
regroup after p q = refl

module _ (s t : State) where
  abbrev by_filled : Order
  by_filled = then_by (by_number s.filled.front t.filled.front) (by_number s.filled.back t.filled.back)

  in_turn_lem : order s t ≡ then_by (by_number s.mask t.mask) (then_by (by_number s.misses t.misses) by_filled)
  unfolding order
  in_turn_lem = regroup (by_number s.mask t.mask) (by_number s.misses t.misses) by_filled

  pub by_mask : (t.mask ≡ s.mask → ⊥) → ltb t.mask s.mask ≡ is_after (order s t)
  by_mask n = sym (ap is_after in_turn_lem ∙ apart s.mask t.mask _ n)

  pub less_held : ltb t.mask s.mask ≡ true → is_after (order s t) ≡ true
  less_held h = sym (by_mask (λ e. absurd (omega (arith, e, ltb-true t.mask s.mask h)))) ∙ h

  module _ (mask : t.mask ≡ s.mask) where
    pub by_misses : (t.misses ≡ s.misses → ⊥) → ltb t.misses s.misses ≡ is_after (order s t)
    by_misses n = sym (ap is_after in_turn_lem ∙ rw (number_same s.mask t.mask (sym mask)) (apart s.misses t.misses by_filled n))

    module _ (misses : t.misses ≡ s.misses) where
      pub by_front : (t.filled.front ≡ s.filled.front → ⊥) → ltb t.filled.front s.filled.front ≡ is_after (order s t)
      by_front n =
          sym (ap is_after in_turn_lem
          ∙ rw (number_same s.mask t.mask (sym mask), number_same s.misses t.misses (sym misses)) (apart s.filled.front t.filled.front _ n))

      pub by_back : t.filled.front ≡ s.filled.front → ltb t.filled.back s.filled.back ≡ is_after (order s t)
      by_back e =
          sym (ap is_after in_turn_lem
          ∙ rw (number_same s.mask t.mask (sym mask), number_same s.misses t.misses (sym misses), number_same s.filled.front t.filled.front (sym e))
          (last s.filled.back t.filled.back))
