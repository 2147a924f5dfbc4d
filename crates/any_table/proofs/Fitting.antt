-- What makes the states in some words a table: what the loops compute. A loop goes through the states from the front; what is left always gives the
-- same answer as the whole, w. The states are T, of which there are n.
use mathlib.Core.Path.{◌≡◌, sym, ◌∙◌}
use mathlib.Core.Bool.{Bool, true, false, ◌&&◌}
use mathlib.Core.List.{List, [], ◌∷◌}
use Prim.Native.Nat.{ℕ, ◌+◌, ◌-◌, ◌≤◌, ◌<◌}
use native.Mathlib.Omega.{arith}
use borrow.Author.Tests.{eqb-true, eq-eqb, ne_eqb}
use lib.Dec.{eqb}
use lib.ListN.{length, drop, length-drop}
use lib.Seq.{drop-cons}
use Rattle.basics.proofs.Bools.{same_test}
use Rattle.basics.proofs.Lists.{list_next, list_end}
use Rattle.rules.specs.Units.{whole}
use Rattle.rules.specs.Ordered.{is_before, rises}
use Rattle.rules.specs.AnyTable.{Listing, at, total}
use Rattle.rules.proofs.Ordered.{rises_next, rises_short}
use Rattle.any_table.specs.Accepted.{all_fitting}

module _ {A : Type 0} (l : Listing A) (T : List A) (n : ℕ) (count : length T ≡ n) (i : ℕ) where
  -- ---- through the states from the front

  module _ {B : Type 0} (f : List A → B) (w : B) (rest : f (drop i T) ≡ w) where
    pub state_next : i < n → f (at l T i ∷ drop (i + 1) T) ≡ w
    state_next h = list_next f T i w rest l.none (omega (arith, count))

    pub state_end : n ≤ i → f [] ≡ w
    state_end h = list_end f T i w rest (omega (arith, count))

  -- ---- each fits

  pub fitting_next : (fits : A → Bool) (w : Bool) → all_fitting fits (drop i T) ≡ w → i < n → (s : A) → s ≡ at l T i
      → (b : Bool) → b ≡ fits s → (b && all_fitting fits (drop (i + 1) T)) ≡ w
  fitting_next fits w rest h s e b f = rw (f, e) (state_next (all_fitting fits) w rest h)

  -- ---- each stands before the next

  module _ (w : Bool) (rest : rises l.order (drop (i - 1) T) ≡ w) (first : 1 ≤ i) where
    pub rising_end : n ≤ i → true ≡ w
    rising_end h = sym (rises_short l.order (drop (i - 1) T) (omega (arith, length-drop (i - 1) T, count))) ∙ rest

  -- ---- the units total WHOLE: what is left of it

  module _ (left : ℕ) (some : left ≤ whole) (rest : whole + total l (drop i T) ≡ left + total l T) where
    pub whole_next : i < n → (s : A) → s ≡ at l T i → (u : ℕ) → u ≡ l.units s → whole + (u + total l (drop (i + 1) T)) ≡ left + total l T
    unfolding total
    whole_next h s e u f = rw (f, e) (state_next (λ T. whole + total l T) (left + total l T) rest h)

    pub whole_passed : i < n → (s : A) → s ≡ at l T i → (u : ℕ) → u ≡ l.units s → left < u → false ≡ eqb (total l T) whole
    whole_passed h s e u f less = sym (ne_eqb (total l T) whole (λ q. omega (arith, q, whole_next h s e u f)))

    pub whole_end : n ≤ i → eqb left 0 ≡ eqb (total l T) whole
    unfolding total
    whole_end h =
        let end : whole + 0 ≡ left + total l T = state_end (λ T. whole + total l T) (left + total l T) rest h in
        same_test (eqb left 0) (eqb (total l T) whole)
        (λ p. eq-eqb (total l T) whole (omega (arith, eqb-true left 0 p)))
        (λ p. eq-eqb left 0 (omega (arith, eqb-true (total l T) whole p)))

-- the state before place i, and those from place i on
module _ {A : Type 0} (l : Listing A) (T : List A) (n : ℕ) (count : length T ≡ n) (i : ℕ) (w : Bool) (rest : rises l.order (drop (i - 1) T) ≡ w) (first : 1 ≤ i) where
  on : i - 1 + 1 ≡ i
  on = omega arith

  pub rising_next : i < n → (s t : A) → s ≡ at l T (i - 1) → t ≡ at l T i
      → (b : Bool) → b ≡ is_before (l.order s t) → (b && rises l.order (drop (i + 1 - 1) T)) ≡ w
  rising_next h s t e f b q =
      let same : i + 1 - 1 ≡ i = omega arith in
      let next : rises l.order (at l T (i - 1) ∷ drop i T) ≡ w = rw on at (state_next l T n count (i - 1) (rises l.order) w rest (omega arith)) in
      rw (same, q, e, f)
      (sym (rises_next l.order (at l T (i - 1)) (drop i T) (drop-cons T i l.none (omega (arith, count)))) ∙ next)
