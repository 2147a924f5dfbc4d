-- States added to a table: it does not matter in which order. Where two come in one after the other they may change places, since the order of states is one and
-- what is added to a state leaves it in its place; so whole lists may, and lists that are made state by state from a table may be taken apart, each part over the whole table. Two
-- states of one place come in as their sum does.
use mathlib.Core.Path.{◌≡◌, refl, sym, ap, ◌∙◌, subst}
use mathlib.Core.Bool.{Bool, true, false, cond}
use mathlib.Core.List.{List, [], ◌∷◌, ◌++◌, map, flat_map}
use Prim.Native.Nat.{ℕ, zero, suc, ◌+◌, ◌≤◌, ◌<◌}
use native.Mathlib.Nat.{le_of_suc-le-suc, min-le_left}
use native.Mathlib.Omega.{arith}
use lib.Dec.{eqb}
use lib.ListN.{length, take, drop, length-map, length-take, take-append-drop}
use lib.Seq.{take_all}
use borrow.Author.Tests.{eqb-true, eqb-false, eq-eqb, ne_eqb}
use Rattle.rules.specs.declared.State.{State}
use Rattle.rules.specs.Units.{whole, more}
use Rattle.rules.specs.declared.Filled.{Filled}
use Rattle.rules.specs.Ordered.{Order, before, same, after, insert, inserted, insert_all}
use Rattle.rules.specs.AnyTable.{add as add_any}
use Rattle.rules.specs.Table.{listing, state, units_of, order, rising, plus, present, add, state_at}
use Rattle.rules.specs.Shape.{Every}
use Rattle.rules.proofs.Splitting.{more_adds, more_more}
use Rattle.rules.proofs.Ordered.{turned, number_same, after_all, state_orders, order_same, states_sort}
use Rattle.rules.proofs.Table.{add_append, rising_is, rising_so, rising_add, length_add_all}
use Rattle.tables.proofs.Following.{take_next}
use Rattle.tables.proofs.Insertion.{add_grows}

-- ---- two states

more_turned : (a b : ℕ) → more a b ≡ more b a
unfolding more
more_turned a b = omega arith

-- what stands in one place is added either way
plus_same : (s t : State) → order s t ≡ same → plus s t ≡ plus t s
plus_same s t e = let (p, q, r) = order_same s t e in rw (p, q, r, more_turned (units_of s) (units_of t))

plus_twice : (t a b : State) → plus (plus t a) b ≡ plus (plus t b) a
plus_twice t a b = ap (λ (u : ℕ). state t.mask t.misses t.filled u) (swapped (units_of t) (units_of a) (units_of b))
  where
    swapped : (t a b : ℕ) → more (more t a) b ≡ more (more t b) a
    swapped t a b = more_more t a b ∙ ap (more t) (omega arith) ∙ sym (more_more t b a)

-- the other way round
turn : (s t : State) {o : Order} → order s t ≡ o → order t s ≡ turned o
turn s t e = state_orders.turn s t ∙ ap turned e

-- the same place as t, so as t to others
as_same : (b t a : State) → order b t ≡ same → order a t ≡ before → order b a ≡ after
as_same b t a p q = state_orders.like b t a p ∙ turn a t q

-- what is added leaves a state in its place
beside : (a t b : State) {o : Order} → order a t ≡ o → order a (plus t b) ≡ o
beside a t b e = states_sort.placed_right a t b ∙ e

pub insert_swap : (a b : State) (T : List State) → insert order plus a (insert order plus b T) ≡ insert order plus b (insert order plus a T)
unfolding insert
insert_swap a b [] = go (order a b) refl
  where
    go : (o : Order) → order a b ≡ o → inserted order plus o a b [] (a ∷ []) ≡ inserted order plus (order b a) b a [] (b ∷ [])
    go before e = rw (turn a b e)
    go same e = rw (turn a b e) (ap (λ (u : State). u ∷ []) (plus_same b a (turn a b e)))
    go after e = rw (turn a b e)
insert_swap a b (t ∷ T) = go (order a t) (order b t) refl refl (insert_swap a b T)
  where
    two : (o : Order) → order a b ≡ o → order a t ≡ before → order b t ≡ before
        → inserted order plus o a b (t ∷ T) (inserted order plus (order a t) a t T (insert order plus a T))
        ≡ inserted order plus (order b a) b a (t ∷ T) (inserted order plus (order b t) b t T (insert order plus b T))
    two before e p q = rw (turn a b e, q)
    two same e p q = rw (turn a b e) (ap (λ (u : State). u ∷ t ∷ T) (plus_same b a (turn a b e)))
    two after e p q = rw (turn a b e, p)

    go : (o p : Order) → order a t ≡ o → order b t ≡ p
        → insert order plus a (insert order plus b T) ≡ insert order plus b (insert order plus a T)
        → insert order plus a (inserted order plus p b t T (insert order plus b T)) ≡ insert order plus b (inserted order plus o a t T (insert order plus a T))
    go before before e f ih = two (order a b) refl e f
    go before same e f ih = rw (beside a t b e, as_same b t a f e, f)
    go before after e f ih = rw (e, after_all order state_orders b t a f e, f)
    go same before e f ih = rw (beside b t a f, as_same a t b e f, e)
    go same same e f ih = rw (beside a t b e, beside b t a f) (ap (λ (u : State). u ∷ T) (plus_twice t b a))
    go same after e f ih = rw (e, beside b t a f)
    go after before e f ih = rw (f, after_all order state_orders a t b e f, e)
    go after same e f ih = rw (beside a t b e, f)
    go after after e f ih = rw (e, f) (ap (t ∷◌) ih)

-- ---- none

pub add_nothing : (T : List State) → add [] T ≡ T
unfolding add_any insert_all
add_nothing T = refl

pub add_gone : (s : State) → units_of s ≡ 0 → (T : List State) → add (s ∷ []) T ≡ T
unfolding add_any insert_all
add_gone s e T = rw (eq-eqb (units_of s) 0 e)

-- ---- two lists

-- one state first or last
pub insert_all_swap : (s : State) (S T : List State) → insert_all order plus S (insert order plus s T) ≡ insert order plus s (insert_all order plus S T)
unfolding insert_all
insert_all_swap s [] T = refl
insert_all_swap s (t ∷ S) T = ap (insert_all order plus S) (insert_swap t s T) ∙ insert_all_swap s S (insert order plus t T)

pub all_swap : (S S' T : List State) → insert_all order plus S (insert_all order plus S' T) ≡ insert_all order plus S' (insert_all order plus S T)
unfolding insert_all
all_swap S [] T = refl
all_swap S (s ∷ S') T = all_swap S S' (insert order plus s T) ∙ ap (insert_all order plus S') (insert_all_swap s S T)

pub add_swap : (S S' T : List State) → add S (add S' T) ≡ add S' (add S T)
unfolding add_any
add_swap S S' T = all_swap (present S) (present S') T

-- ---- lists made state by state

-- with one state more for each
pub flat_apart : (f : State → List State) (g : State → State) (S T : List State) → add (flat_map (λ s. f s ++ (g s ∷ [])) S) T ≡ add (map g S) (add (flat_map f S) T)
unfolding flat_map
flat_apart f g [] T = sym (add_nothing (add [] T))
flat_apart f g (s ∷ S) T =
    add_append (f s ++ (g s ∷ [])) (flat_map (λ s. f s ++ (g s ∷ [])) S) T
    ∙ flat_apart f g S (add (f s ++ (g s ∷ [])) T)
    ∙ ap (λ (X : List State). add (map g S) (add (flat_map f S) X)) (add_append (f s) (g s ∷ []) T)
    ∙ ap (add (map g S)) (add_swap (flat_map f S) (g s ∷ []) (add (f s) T))
    ∙ sym (add_append (g s ∷ []) (map g S) (add (flat_map f S) (add (f s) T)))
    ∙ ap (add (g s ∷ map g S)) (sym (add_append (f s) (flat_map f S) T))

-- where what each state makes comes in alike, so does what all make
pub flat_alike : (f g : State → List State) (P : State → Type 0) → ((s : State) → P s → (T : List State) → add (f s) T ≡ add (g s) T) → (S : List State) → Every P S
    → (T : List State) → add (flat_map f S) T ≡ add (flat_map g S) T
unfolding flat_map
flat_alike f g P alike [] h T = refl
flat_alike f g P alike (s ∷ S) h T =
    add_append (f s) (flat_map f S) T
    ∙ flat_alike f g P alike S h.1 (add (f s) T)
    ∙ ap (add (flat_map g S)) (alike s h.0 T)
    ∙ sym (add_append (g s) (flat_map g S) T)

-- ---- a sum

-- where a state stands does not depend on its units
order_units : (C m : ℕ) (F : Filled) (a b : ℕ) (t : State) → order (state C m F a) t ≡ order (state C m F b) t
unfolding order
order_units C m F a b t = refl

order_self : (C m : ℕ) (F : Filled) (a b : ℕ) → order (state C m F a) (state C m F b) ≡ same
unfolding order
order_self C m F a b = rw (number_same C C refl, number_same m m refl, number_same F.front F.front refl, number_same F.back F.back refl)

module _ (C m : ℕ) (F : Filled) (a b : ℕ) (few : a + b ≤ whole) where
  insert_sum : (T : List State) → insert order plus (state C m F b) (insert order plus (state C m F a) T) ≡ insert order plus (state C m F (a + b)) T
  unfolding insert
  insert_sum [] = rw (order_self C m F b a) (ap (λ (u : ℕ). state C m F u ∷ []) (more_adds a b few))
  insert_sum (t ∷ T) = go (order (state C m F a) t) refl (insert_sum T)
    where
      go : (o : Order) → order (state C m F a) t ≡ o → insert order plus (state C m F b) (insert order plus (state C m F a) T) ≡ insert order plus (state C m F (a + b)) T
          → insert order plus (state C m F b) (inserted order plus o (state C m F a) t T (insert order plus (state C m F a) T))
          ≡ inserted order plus (order (state C m F (a + b)) t) (state C m F (a + b)) t T (insert order plus (state C m F (a + b)) T)
      go before e ih = rw (order_units C m F (a + b) a t ∙ e, order_self C m F b a) (ap (λ (u : ℕ). state C m F u ∷ t ∷ T) (more_adds a b few))
      go same e ih = rw (order_units C m F (a + b) a t ∙ e, beside (state C m F b) t (state C m F a) (order_units C m F b a t ∙ e)) (ap (λ (u : ℕ). state t.mask t.misses t.filled u ∷ T) (more_more (units_of t) a b))
      go after e ih = rw (order_units C m F (a + b) a t ∙ e, order_units C m F b a t ∙ e) (ap (t ∷◌) ih)

  pub add_sum : (T : List State) → add (state C m F a ∷ state C m F b ∷ []) T ≡ add (state C m F (a + b) ∷ []) T
  unfolding add_any insert_all
  add_sum T = go (eqb a 0) (eqb b 0) refl refl
    where
      go : (p q : Bool) → eqb a 0 ≡ p → eqb b 0 ≡ q
          → insert_all order plus (cond p (cond q [] (state C m F b ∷ [])) (state C m F a ∷ cond q [] (state C m F b ∷ []))) T
          ≡ insert_all order plus (cond (eqb (a + b) 0) [] (state C m F (a + b) ∷ [])) T
      go true true p q = rw (eq-eqb (a + b) 0 (omega (arith, eqb-true a 0 p, eqb-true b 0 q)))
      go true false p q =
          rw (ne_eqb (a + b) 0 (λ e. eqb-false b 0 q (omega arith)))
          (ap (λ (u : ℕ). insert_all order plus (state C m F u ∷ []) T) (omega (arith, eqb-true a 0 p)))
      go false true p q =
          rw (ne_eqb (a + b) 0 (λ e. eqb-false a 0 p (omega arith)))
          (ap (λ (u : ℕ). insert_all order plus (state C m F u ∷ []) T) (omega (arith, eqb-true b 0 q)))
      go false false p q = rw (ne_eqb (a + b) 0 (λ e. eqb-false a 0 p (omega arith))) (insert_sum T)

-- ---- what is made of a table's states

-- nothing comes in where nothing is made
pub add_none : (f : State → State) (S : List State) → Every (λ s. units_of (f s) ≡ 0) S → (T : List State) → add (map f S) T ≡ T
add_none f [] h T = add_nothing T
add_none f (s ∷ S) h T = add_append (f s ∷ []) (map f S) T ∙ ap (add (map f S)) (add_gone (f s) h.0 T) ∙ add_none f S h.1 T

-- in its place
made_at : (f : State → State) (S : List State) (i : ℕ) → i < length S → state_at (map f S) i ≡ f (state_at S i)
made_at f [] i l = absurd (omega arith)
made_at f (s ∷ S) zero l = refl
made_at f (s ∷ S) (suc i) l = made_at f S i (le_of_suc-le-suc l)

-- ---- states that come one by one

module _ (U : List State) where
  -- the table X with the first i of them
  abbrev pub added : List State → ℕ → List State
  added X i = add (take i U) X

  pub added_none : (X : List State) → added X 0 ≡ X
  added_none X = add_nothing X

  pub added_next : (X : List State) (i : ℕ) (u : State) → i < length U → u ≡ state_at U i → add (u ∷ []) (added X i) ≡ added X (i + 1)
  added_next X i u l e = sym (add_append (take i U) (u ∷ []) X) ∙ ap (λ (Y : List State). add Y X) (take_next listing U i u l e)

  pub added_all : (X : List State) (m : ℕ) → length U ≤ m → added X m ≡ add U X
  added_all X m l = ap (λ (Y : List State). add Y X) (take_all m U l)

  pub added_rising : (X : List State) (i : ℕ) → rising X ≡ true → rising (added X i) ≡ true
  added_rising X i h = rising_is (added X i) (rising_add (take i U) X (rising_so X h))

  -- with the states that are still to come there are no fewer
  pub added_room : (X : List State) (i : ℕ) → length (added X i) ≤ length (add U X)
  added_room X i =
      subst (λ (Y : List State). length (added X i) ≤ length Y)
      (sym (add_append (take i U) (drop i U) X) ∙ ap (λ (Y : List State). add Y X) (take-append-drop i U))
      (add_grows listing (drop i U) (added X i))

  -- and each is one more at most
  pub added_few : (X : List State) (i : ℕ) → length (added X i) ≤ i + length X
  added_few X i = omega (arith, length_add_all (take i U) X, length-take i U, min-le_left i (length U))

-- which are made of the states of a table
module _ (f : State → State) (S X : List State) where
  pub made_next : (i : ℕ) (s : State) → i < length S → s ≡ state_at S i → add (f s ∷ []) (added (map f S) X i) ≡ added (map f S) X (i + 1)
  made_next i s l e = added_next (map f S) X i (f s) (omega (arith, length-map S f)) (ap f e ∙ sym (made_at f S i l))

  pub made_all : (m : ℕ) → length S ≤ m → added (map f S) X m ≡ add (map f S) X
  made_all m l = added_all (map f S) X m (omega (arith, length-map S f))
