-- Which of two comes first, by two numbers; whether a list rises. Insertion into a list in an order, over any element: what stays true of every element, what is summed, how long the list gets,
-- and that it keeps rising. Then the order of states, by mask, misses and filled numbers, made of the orders of numbers one after the other.
use mathlib.Core.Path.{◌≡◌, refl, sym, ap, ap₂, ◌∙◌}
use mathlib.Core.Bool.{Bool, true, false, cond, ◌&&◌, true≢false}
use mathlib.Core.List.{List, [], ◌∷◌}
use Prim.Native.Nat.{ℕ, zero, suc, ◌+◌, ◌≤◌, ◌<◌}
use native.Mathlib.Omega.{arith}
use lib.Dec.{eqb, ltb}
use lib.ListN.{length}
use borrow.Author.Tests.{ltb-true, ltb-false, eqb-true, eqb-false, lt-ltb, le-ltb, eq-eqb, ne_eqb}
use Rattle.basics.specs.Sums.{sum_over}
use Rattle.basics.proofs.Bools.{and_left, and_right}
use Rattle.rules.specs.Ordered.{Order, before, same, after, by_number, then_by, by_two, is_before, rises, inserted, insert, insert_all, remove}
use Rattle.rules.specs.Table.{State, order, plus}
use Rattle.rules.specs.Shape.{Every}
use Rattle.rules.proofs.Lists.{every_weaker, every_remove}
use Rattle.rules.proofs.Filling.{same_filled_lem}

-- ---- rising

module _ {A : Type 0} (order : A → A → Order) where
  -- y is the next behind x
  pub rises_next : (x : A) {y : A} (ts : List A) {us : List A} → ts ≡ y ∷ us → rises order (x ∷ ts) ≡ (is_before (order x y) && rises order ts)
  rises_next x ts e = rw e

  pub rises_short : (ts : List A) → length ts ≤ 1 → rises order ts ≡ true
  rises_short [] l = refl
  rises_short (t ∷ []) l = refl
  rises_short (t ∷ u ∷ ts) l = absurd (omega arith)

-- ---- insertion

module _ {A : Type 0} (order : A → A → Order) (plus : A → A → A) where
  pub length_insert : (s : A) (T : List A) → length (insert order plus s T) ≤ suc (length T)
  unfolding insert
  length_insert s [] = omega arith
  length_insert s (t ∷ T) = go (order s t) (length_insert s T)
    where
      go : (o : Order) → length (insert order plus s T) ≤ suc (length T)
          → length (inserted order plus o s t T (insert order plus s T)) ≤ suc (suc (length T))
      go before h = omega arith
      go same h = omega arith
      go after h = omega arith

  pub length_insert_all : (S T : List A) → length (insert_all order plus S T) ≤ length S + length T
  unfolding insert_all
  length_insert_all [] T = omega arith
  length_insert_all (s ∷ S) T = omega (arith, length_insert_all S (insert order plus s T), length_insert s T)

  -- a property that adding does not break
  module _ (P : A → Type 0) (lasts : (t s : A) → P t → P (plus t s)) where
    pub every_insert : (s : A) (T : List A) → P s → Every P T → Every P (insert order plus s T)
    unfolding insert
    every_insert s [] h a = (h, tt)
    every_insert s (t ∷ T) h a = go (order s t) (every_insert s T h a.1)
      where
        go : (o : Order) → Every P (insert order plus s T) → Every P (inserted order plus o s t T (insert order plus s T))
        go before b = (h, a)
        go same b = (lasts t s a.0, a.1)
        go after b = (a.0, b)

    pub every_insert_all : (S T : List A) → Every P S → Every P T → Every P (insert_all order plus S T)
    unfolding insert_all
    every_insert_all [] T h a = a
    every_insert_all (s ∷ S) T h a = every_insert_all S (insert order plus s T) h.1 (every_insert s T h.0 a)

  -- adding adds to F, as long as G comes to no more than B
  module _ (G : A → ℕ) (B : ℕ) where
    abbrev pub Adds : (A → ℕ) → Type 0
    Adds F = (s t : A) → order s t ≡ same → G t + G s ≤ B → F (plus t s) ≡ F t + F s

    pub sum_insert : (F : A → ℕ) → Adds F → (s : A) (T : List A) → G s + sum_over G T ≤ B
        → sum_over F (insert order plus s T) ≡ F s + sum_over F T
    unfolding insert
    sum_insert F adds s [] h = refl
    sum_insert F adds s (t ∷ T) h = go (order s t) refl (sum_insert F adds s T (omega arith))
      where
        go : (o : Order) → order s t ≡ o → sum_over F (insert order plus s T) ≡ F s + sum_over F T
            → sum_over F (inserted order plus o s t T (insert order plus s T)) ≡ F s + sum_over F (t ∷ T)
        go before e ih = refl
        go same e ih = omega (arith, adds s t e (omega arith))
        go after e ih = omega arith

    pub sum_insert_all : (F : A → ℕ) → Adds F → Adds G → (S T : List A) → sum_over G S + sum_over G T ≤ B
        → sum_over F (insert_all order plus S T) ≡ sum_over F S + sum_over F T
    unfolding insert_all
    sum_insert_all F adds adds-G [] T h = omega arith
    sum_insert_all F adds adds-G (s ∷ S) T h =
        let t = sum_insert G adds-G s T (omega arith) in
        omega (arith, sum_insert_all F adds adds-G S (insert order plus s T) (omega arith), sum_insert F adds s T (omega arith))

-- ---- rising

module _ {A : Type 0} (order : A → A → Order) where
  -- each stands before all that follow it
  abbrev pub InOrder : List A → Type 0
  InOrder [] = Unit {0}
  InOrder (s ∷ T) = Every (λ t. order s t ≡ before) T × InOrder T

  pub in_order_rises : (T : List A) → InOrder T → rises order T ≡ true
  in_order_rises [] h = refl
  in_order_rises (s ∷ []) h = refl
  in_order_rises (s ∷ t ∷ T) h = rw h.0.0 (in_order_rises (t ∷ T) h.1)

  -- it is enough that each stands before the next
  pub rises_in_order : ((s t u : A) → order s t ≡ before → order t u ≡ before → order s u ≡ before) → (T : List A) → rises order T ≡ true → InOrder T
  rises_in_order onward [] h = tt
  rises_in_order onward (s ∷ []) h = (tt, tt)
  rises_in_order onward (s ∷ t ∷ T) h =
      let rest = rises_in_order onward (t ∷ T) (and_right (is_before (order s t)) _ h) in
      let first = is_before_lem (order s t) (and_left (is_before (order s t)) _ h) in
      ((first, every_weaker (λ u. order t u ≡ before) (λ u. order s u ≡ before) (λ u. onward s t u first) T rest.0), rest)
    where
      is_before_lem : (o : Order) → is_before o ≡ true → o ≡ before
      is_before_lem before e = refl
      is_before_lem same e = absurd (true≢false (sym e))
      is_before_lem after e = absurd (true≢false (sym e))

  pub in_order_remove : (i : ℕ) (T : List A) → InOrder T → InOrder (remove i T)
  unfolding remove
  in_order_remove i [] h = tt
  in_order_remove zero (t ∷ T) h = h.1
  in_order_remove (suc i) (t ∷ T) h = (every_remove (λ u. order t u ≡ before) i T h.0, in_order_remove i T h.1)

  -- what an order is, and that adding leaves an element in its place
  pub record Sorts (plus : A → A → A) : Type 0 where
    pub onward : (s t u : A) → order s t ≡ before → order t u ≡ before → order s u ≡ before
    pub turned : (s t : A) → order s t ≡ after → order t s ≡ before
    pub placed_left : (t s u : A) → order (plus t s) u ≡ order t u
    pub placed_right : (u t s : A) → order u (plus t s) ≡ order u t

  module _ (plus : A → A → A) (sorts : Sorts plus) where
    pub in_order_insert : (s : A) (T : List A) → InOrder T → InOrder (insert order plus s T)
    unfolding insert
    in_order_insert s [] h = (tt, tt)
    in_order_insert s (t ∷ T) h = go (order s t) refl (in_order_insert s T h.1)
      where
        go : (o : Order) → order s t ≡ o → InOrder (insert order plus s T) → InOrder (inserted order plus o s t T (insert order plus s T))
        go before e a =
            ((e, every_weaker (λ u. order t u ≡ before) (λ u. order s u ≡ before) (λ u. sorts.onward s t u e) T h.0), h)
        go same e a =
            (every_weaker (λ u. order t u ≡ before) (λ u. order (plus t s) u ≡ before) (λ u b. sorts.placed_left t s u ∙ b) T h.0, h.1)
        go after e a =
            (every_insert order plus (λ u. order t u ≡ before) (λ u v b. sorts.placed_right t u v ∙ b) s T (sorts.turned s t e) h.0, a)

    pub in_order_insert_all : (S T : List A) → InOrder T → InOrder (insert_all order plus S T)
    unfolding insert_all
    in_order_insert_all [] T h = h
    in_order_insert_all (s ∷ S) T h = in_order_insert_all S (insert order plus s T) (in_order_insert s T h)

-- ---- two numbers

pub number_cases : (a b : ℕ) (P : Order → Type 0) → (a < b → P before) → (a ≡ b → P same) → (b < a → P after) → P (by_number a b)
number_cases a b P f g h = go (ltb a b) (eqb a b) refl refl
  where
    go : (l e : Bool) → ltb a b ≡ l → eqb a b ≡ e → P (cond l before (cond e same after))
    go true e p q = f (ltb-true a b p)
    go false true p q = g (eqb-true a b q)
    go false false p q = let n : a ≡ b → ⊥ = eqb-false a b q in h (omega (arith, ltb-false a b p, n))

pub number_before : (a b : ℕ) → a < b → by_number a b ≡ before
number_before a b l = rw (lt-ltb a b l)

number_after : (a b : ℕ) → b < a → by_number a b ≡ after
number_after a b l = rw (le-ltb a b (omega arith), ne_eqb a b (λ e. absurd (omega arith)))

pub number_same : (a b : ℕ) → a ≡ b → by_number a b ≡ same
number_same a b e = rw (le-ltb a b (omega arith), eq-eqb a b e)

-- what it says
pub said_before : (a b : ℕ) → by_number a b ≡ before → a < b
said_before a b =
    number_cases a b (λ o. o ≡ before → a < b) (λ l e. l) (λ q e. let z : ◌≡◌ {A = ℕ} 0 1 = cc in absurd (omega arith))
    (λ l e. let z : ◌≡◌ {A = ℕ} 0 1 = cc in absurd (omega arith))

pub said_same : (a b : ℕ) → by_number a b ≡ same → a ≡ b
said_same a b =
    number_cases a b (λ o. o ≡ same → a ≡ b) (λ l e. let z : ◌≡◌ {A = ℕ} 0 1 = cc in absurd (omega arith)) (λ q e. q)
    (λ l e. let z : ◌≡◌ {A = ℕ} 0 1 = cc in absurd (omega arith))

-- ---- one order, and then another

abbrev pub turned : Order → Order
turned before = after
turned same = same
turned after = before

pub then_both : (p q : Order) → then_by p q ≡ same → (p ≡ same) × (q ≡ same)
then_both before q e = let z : ◌≡◌ {A = ℕ} 0 1 = cc in absurd (omega arith)
then_both same q e = (refl, e)
then_both after q e = let z : ◌≡◌ {A = ℕ} 0 1 = cc in absurd (omega arith)

-- what an order is: turned round, it says the other thing; what stand in the same place stand so to all others; it goes on
pub record Orders {A : Type 0} (o : A → A → Order) : Type 0 where
  pub turn : (s t : A) → o t s ≡ turned (o s t)
  pub like : (s t u : A) → o s t ≡ same → o s u ≡ o t u
  pub onward : (s t u : A) → o s t ≡ before → o t u ≡ before → o s u ≡ before

pub by_number_lem : {A : Type 0} (p : A → ℕ) → Orders (λ s t. by_number (p s) (p t))
by_number_lem p =
    record {
      turn = λ s t. number_cases (p s) (p t) (λ o. by_number (p t) (p s) ≡ turned o) (number_after (p t) (p s))
          (λ e. number_same (p t) (p s) (sym e)) (number_before (p t) (p s));
      like = λ s t u e. ap (λ (n : ℕ). by_number n (p u)) (said_same (p s) (p t) e);
      onward = λ s t u a b. number_before (p s) (p u) (omega (arith, said_before (p s) (p t) a, said_before (p t) (p u) b));
    }

module _ {A : Type 0} (o : A → A → Order) (orders : Orders o) where
  like_right : (s t u : A) → o t u ≡ same → o s t ≡ o s u
  like_right s t u e = orders.turn t s ∙ ap turned (orders.like t u s e) ∙ sym (orders.turn u s)

  -- what stands after t stands after all before t
  pub after_all : (s t u : A) → o s t ≡ after → o u t ≡ before → o s u ≡ after
  after_all s t u a b = orders.turn u s ∙ ap turned (orders.onward u t s b (orders.turn s t ∙ ap turned a))

  pub turned_before : (s t : A) → o s t ≡ after → o t s ≡ before
  turned_before s t e = orders.turn s t ∙ ap turned e

  module _ (o' : A → A → Order) (orders' : Orders o') where
    pub then_by_lem : Orders (λ s t. then_by (o s t) (o' s t))
    then_by_lem =
        record {
          turn = λ s t. ap₂ then_by (orders.turn s t) (orders'.turn s t) ∙ round (o s t) (o' s t);
          like = λ s t u e. let (a, b) = then_both (o s t) (o' s t) e in ap₂ then_by (orders.like s t u a) (orders'.like s t u b);
          onward = λ s t u a b. on s t u (o s t) (o t u) refl refl a b;
        }
      where
        round : (p q : Order) → then_by (turned p) (turned q) ≡ turned (then_by p q)
        round before q = refl
        round same q = refl
        round after q = refl

        on : (s t u : A) (p q : Order) → o s t ≡ p → o t u ≡ q → then_by p (o' s t) ≡ before → then_by q (o' t u) ≡ before → then_by (o s u) (o' s u) ≡ before
        on s t u before before x y a b = rw (orders.onward s t u x y)
        on s t u before same x y a b = rw (sym (like_right s t u y) ∙ x)
        on s t u same before x y a b = rw (orders.like s t u x ∙ y)
        on s t u same same x y a b = rw (orders.like s t u x ∙ y) (orders'.onward s t u a b)
        on s t u before after x y a b = let z : ◌≡◌ {A = ℕ} 0 1 = cc in absurd (omega arith)
        on s t u same after x y a b = let z : ◌≡◌ {A = ℕ} 0 1 = cc in absurd (omega arith)
        on s t u after q x y a b = let z : ◌≡◌ {A = ℕ} 0 1 = cc in absurd (omega arith)

-- ---- the order of states

pub state_orders : Orders order
unfolding order
state_orders =
    then_by_lem _ (then_by_lem _ (by_number_lem (λ s. s.mask)) _ (by_number_lem (λ s. s.misses))) _
    (then_by_lem _ (by_number_lem (λ s. s.filled.front)) _ (by_number_lem (λ s. s.filled.back)))

pub order_same : (s t : State) → order s t ≡ same → (s.mask ≡ t.mask) × (s.misses ≡ t.misses) × (s.filled ≡ t.filled)
unfolding order
order_same s t e =
    let (x, y) = then_both (by_two (λ s. s.mask) (λ s. s.misses) s t) _ e in
    let (a, b) = then_both (by_number s.mask t.mask) _ x in
    let (c, d) = then_both (by_number s.filled.front t.filled.front) _ y in (
      said_same s.mask t.mask a,
      said_same s.misses t.misses b,
      same_filled_lem s.filled t.filled (said_same s.filled.front t.filled.front c, said_same s.filled.back t.filled.back d),
    )

pub states_sort : Sorts order plus
unfolding order
states_sort =
    record {
      onward = state_orders.onward;
      turned = turned_before order state_orders;
      placed_left = λ t s u. refl;
      placed_right = λ u t s. refl;
    }
