-- Where a state belongs in a table, and what the table is with it: added to the state at that place, or put in before it. For any kind of state: only its
-- place in the order and its units count.
use mathlib.Core.Path.{◌≡◌, refl, sym, ap, ap₂, ◌∙◌}
use mathlib.Core.Logic.{◌⊎◌, inl, inr}
use mathlib.Core.Bool.{Bool, true, false, cond, ◌&&◌, true≢false}
use mathlib.Core.List.{List, [], ◌∷◌, ◌++◌, append_assoc}
use Prim.Native.Nat.{ℕ, zero, suc, ◌+◌, ◌-◌, ◌≤◌, ◌<◌, suc-le-suc}
use native.Mathlib.Nat.{not-suc-le-zero, le_of_suc-le-suc, eq-or-lt_of_le}
use native.Mathlib.Numerals.{add-one}
use native.Mathlib.Omega.{arith}
use lib.Dec.{eqb, ltb}
use lib.ListN.{length, set, take, drop, length-set, length-append, length-drop, take-append-drop, get_or-append}
use lib.Seq.{paste, take-suc, append_snoc, set_at, take_at, drop-cons, get_or-take, drop-length, length-take-le, take-take, take-set-lt}
use Rattle.std.proofs.lemmas.List.{drop-take}
use borrow.Author.Tests.{lt-ltb, eq-eqb, ne_eqb, ltb-true}
use Rattle.basics.proofs.Bools.{and_left, and_right}
use Rattle.rules.specs.Ordered.{Order, before, same, after, by_number, then_by, is_before, rises, insert, inserted, insert_all}
use Rattle.rules.specs.AnyTable.{Listing, plus, present, add, at}
use Rattle.rules.proofs.Ordered.{Orders, turned, number_cases, rises_in_order, after_all}
use Rattle.rules.proofs.Partners.{in_order_at}
use Rattle.rules.proofs.Listings.{Lawful}
use Rattle.tables.specs.Placing.{is_after, is_same, place_of, Passed, Inserted, Added}

-- ---- two orders, and two numbers

pub same_then : (o p : Order) → is_same (then_by o p) ≡ (is_same o && is_same p)
same_then before p = refl
same_then same p = refl
same_then after p = refl

pub same_number : (a b : ℕ) → is_same (by_number a b) ≡ eqb a b
same_number a b =
    number_cases a b (λ o. is_same o ≡ eqb a b) (λ l. sym (ne_eqb a b (λ e. absurd (omega arith)))) (λ e. sym (eq-eqb a b e))
    (λ l. sym (ne_eqb a b (λ e. absurd (omega arith))))

pub after_turned : {A : Type 0} (order : A → A → Order) → Orders order → (s t : A) (r : Bool) → r ≡ is_before (order t s) → r ≡ is_after (order s t)
after_turned order orders s t r e = e ∙ ap is_before (orders.turn s t) ∙ go (order s t)
  where
    go : (o : Order) → is_before (turned o) ≡ is_after o
    go before = refl
    go same = refl
    go after = refl

is_after_lem : (o : Order) → is_after o ≡ true → o ≡ after
is_after_lem before e = absurd (true≢false (sym e))
is_after_lem same e = absurd (true≢false (sym e))
is_after_lem after e = refl

pub is_same_lem : (o : Order) → is_same o ≡ true → o ≡ same
is_same_lem before e = absurd (true≢false (sym e))
is_same_lem same e = refl
is_same_lem after e = absurd (true≢false (sym e))

-- what the test of a place says
module _ (r b : Bool) (at n : ℕ) (e : r ≡ (ltb at n && b)) where
  pub met_there : r ≡ true → (at < n) × (b ≡ true)
  met_there h = (ltb-true at n (and_left (ltb at n) b (sym e ∙ h)), and_right (ltb at n) b (sym e ∙ h))

  pub met_none : r ≡ false → at < n → b ≡ false
  met_none h l = sym (ap (λ (a : Bool). a && b) (lt-ltb at n l)) ∙ sym e ∙ h

module _ {A : Type 0} (states : Listing A) where
  open states use {units, order, none}

  abbrev state_at : List A → ℕ → A
  state_at T i = at states T i

  -- ---- where a state belongs

  -- s does not stand after the state at place i, if there is one
  abbrev pub Stopped : A → List A → ℕ → Type 0
  Stopped s T i = i < length T → is_after (order s (state_at T i)) ≡ false

  -- where s stands after one state of a rises order table, it stands after all before that
  passed_up : Orders order → (s : A) (T : List A) → rises order T ≡ true → (m : ℕ) → m < length T → true ≡ is_after (order s (state_at T m)) → Passed states s T (suc m)
  passed_up orders s T h m l e j k = go (eq-or-lt_of_le (le_of_suc-le-suc k))
    where
      go : (j ≡ m) ⊎ (j < m) → is_after (order s (state_at T j)) ≡ true
      go (inl q) = rw q (sym e)
      go (inr q) =
          rw (after_all order orders s (state_at T m) (state_at T j) (is_after_lem _ (sym e)) (in_order_at order none T (rises_in_order order orders.onward T h) j m q l))

  -- that is the place
  place_found : (s : A) (T : List A) (i : ℕ) → i ≤ length T → Passed states s T i → Stopped s T i → i ≡ place_of states s T
  unfolding place_of
  place_found s [] zero l p q = refl
  place_found s [] (suc i) l p q = absurd (omega arith)
  place_found s (t ∷ T) zero l p q = rw (q (omega arith))
  place_found s (t ∷ T) (suc i) l p q =
      rw (p 0 (omega arith))
      (ap suc (place_found s T i (le_of_suc-le-suc l) (λ j k. p (suc j) (suc-le-suc k)) (λ k. q (suc-le-suc k))))

  place_least : (s : A) (T : List A) → place_of states s T ≤ length T
  unfolding place_of
  place_least s [] = omega arith
  place_least s (t ∷ T) = go (is_after (order s t)) (place_least s T)
    where
      go : (b : Bool) → place_of states s T ≤ length T → cond b (suc (place_of states s T)) 0 ≤ suc (length T)
      go true h = omega arith
      go false h = omega arith

  -- the search by halves among the first n states of a list
  module _ (s : A) (n : ℕ) (T : List A) (room : n ≤ length T) where
    pub seek_start : Passed states s (take n T) 0 × Stopped s (take n T) n
    seek_start = (λ j l. absurd (not-suc-le-zero l), λ l. absurd (omega (arith, length-take-le n T room)))

    -- past the last of them none stands
    pub seek_full : (i : ℕ) → n ≤ i → Stopped s (take n T) i
    seek_full i m l = absurd (omega (arith, length-take-le n T room))

    module _ (m : ℕ) (t : A) (r : Bool) (l : m < n) (p : t ≡ state_at T m) (q : r ≡ is_after (order s t)) where
      there : r ≡ is_after (order s (state_at (take n T) m))
      there = q ∙ rw (p, get_or-take n T m none l)

      pub seek_up : Orders order → rises order (take n T) ≡ true → r ≡ true → Passed states s (take n T) (m + 1)
      seek_up orders h e = rw (add-one m) (passed_up orders s (take n T) h m (omega (arith, length-take-le n T room)) (sym e ∙ there))

      pub seek_down : r ≡ false → Stopped s (take n T) m
      seek_down e k = sym there ∙ e

    pub seek_end : (i : ℕ) → i ≤ n → Passed states s (take n T) i → Stopped s (take n T) i → i ≡ place_of states s (take n T)
    seek_end i l p q = place_found s (take n T) i (omega (arith, length-take-le n T room)) p q

    pub place_within : (i : ℕ) → i ≡ place_of states s (take n T) → i ≤ n
    place_within i e = omega (arith, place_least s (take n T), length-take-le n T room)

  -- ---- what the table is with it

  insert_same : (s : A) (T : List A) (i : ℕ) → i ≡ place_of states s T → i < length T → is_same (order s (state_at T i)) ≡ true
      → insert order (plus states) s T ≡ set T i (plus states (state_at T i) s)
  unfolding insert place_of
  insert_same s [] i e l h = absurd (not-suc-le-zero l)
  insert_same s (t ∷ T) i e l h = go (order s t) refl i e l h (insert_same s T)
    where
      go : (o : Order) → order s t ≡ o → (i : ℕ) → i ≡ cond (is_after o) (suc (place_of states s T)) 0 → i < suc (length T)
          → is_same (order s (state_at (t ∷ T) i)) ≡ true
          → ((i : ℕ) → i ≡ place_of states s T → i < length T → is_same (order s (state_at T i)) ≡ true → insert order (plus states) s T ≡ set T i (plus states (state_at T i) s))
          → inserted order (plus states) o s t T (insert order (plus states) s T) ≡ set (t ∷ T) i (plus states (state_at (t ∷ T) i) s)
      go before q zero e l h ih = absurd (true≢false (sym h ∙ ap is_same q))
      go same q zero e l h ih = refl
      go after q zero e l h ih = absurd (omega arith)
      go before q (suc i) e l h ih = absurd (omega arith)
      go same q (suc i) e l h ih = absurd (omega arith)
      go after q (suc i) e l h ih = ap (t ∷◌) (ih i (omega arith) (le_of_suc-le-suc l) h)

  insert_open : (s : A) (T : List A) (i : ℕ) → i ≡ place_of states s T → (i < length T → is_same (order s (state_at T i)) ≡ false)
      → insert order (plus states) s T ≡ take i T ++ (s ∷ drop i T)
  unfolding insert place_of
  insert_open s [] zero e h = refl
  insert_open s [] (suc i) e h = absurd (omega arith)
  insert_open s (t ∷ T) i e h = go (order s t) refl i e h (insert_open s T)
    where
      go : (o : Order) → order s t ≡ o → (i : ℕ) → i ≡ cond (is_after o) (suc (place_of states s T)) 0
          → (i < suc (length T) → is_same (order s (state_at (t ∷ T) i)) ≡ false)
          → ((i : ℕ) → i ≡ place_of states s T → (i < length T → is_same (order s (state_at T i)) ≡ false) → insert order (plus states) s T ≡ take i T ++ (s ∷ drop i T))
          → inserted order (plus states) o s t T (insert order (plus states) s T) ≡ take i (t ∷ T) ++ (s ∷ drop i (t ∷ T))
      go before q zero e h ih = refl
      go same q zero e h ih = absurd (true≢false (sym (ap is_same q) ∙ h (omega arith)))
      go after q zero e h ih = absurd (omega arith)
      go before q (suc i) e h ih = absurd (omega arith)
      go same q (suc i) e h ih = absurd (omega arith)
      go after q (suc i) e h ih = ap (t ∷◌) (ih i (omega arith) (λ l. h (suc-le-suc l)))

  -- ---- a state put among the first n states of a list

  module _ (s : A) (n at : ℕ) (T T' : List A) (room : n ≤ length T) (e : at ≡ place_of states s (take n T)) where
    long : length (take n T) ≡ n
    long = length-take-le n T room

    -- s is added to the state that stands in its place
    pub put_same : (t y : A) → at < n → is_same (order s t) ≡ true → t ≡ state_at T at → y ≡ plus states t s → T' ≡ set T at y → Inserted states s n n T T'
    put_same t y l h p q r =
        record {
          count = sym (ap length is ∙ length-set (take n T) at y ∙ long);
          table = ap (take n) r ∙ take-set-lt n T at y l ∙ sym is;
        }
      where
        here : state_at (take n T) at ≡ t
        here = get_or-take n T at none l ∙ sym p

        is : insert order (plus states) s (take n T) ≡ set (take n T) at y
        is = insert_same s (take n T) at e (omega (arith, long)) (rw here h) ∙ rw (here, q)

    -- or put in before it: there is one more then
    put_open : (at < n → is_same (order s (state_at T at)) ≡ false) → insert order (plus states) s (take n T) ≡ take at (take n T) ++ (s ∷ drop at (take n T))
    put_open h = insert_open s (take n T) at e (λ l. rw (get_or-take n T at none (omega (arith, long))) (h (omega (arith, long))))

    below : at ≤ length (take n T)
    below = rw e (place_least s (take n T))

    pub new_room : (at < n → is_same (order s (state_at T at)) ≡ false) → length (insert order (plus states) s (take n T)) ≡ n + 1
    new_room h =
        ap length (put_open h)
        ∙ omega (arith, length-append (take at (take n T)) (s ∷ drop at (take n T)), length-take-le at (take n T) below, length-drop at (take n T), long, below)

    pub put_new : (at < n → is_same (order s (state_at T at)) ≡ false) → take (suc n) T' ≡ take at T ++ (s ∷ drop at (take n T)) → Inserted states s n (n + 1) T T'
    put_new h r =
        record {
          count = sym (new_room h);
          table = rw (add-one n) (r ∙ ap (λ (X : List A). X ++ (s ∷ drop at (take n T))) (sym (take-take at n T (omega (arith, long, below)))) ∙ sym (put_open h));
        }

  -- ---- a state that comes in next

  -- where t has come in, what stands behind it stands after all states up to it
  pub passed_next : Orders order → Lawful states → (t u : A) → order t u ≡ before → (T : List A) → Passed states u (insert order (plus states) t T) (suc (place_of states t T))
  unfolding insert place_of
  passed_next orders laws t u e [] = λ j l. go j l
    where
      go : (j : ℕ) → j < 1 → is_after (order u (state_at (t ∷ []) j)) ≡ true
      go zero l = ap is_after (orders.turn t u ∙ ap turned e)
      go (suc j) l = absurd (omega arith)
  passed_next orders laws t u e (r ∷ T) = go (order t r) refl (passed_next orders laws t u e T)
    where
      first : order r u ≡ before → is_after (order u r) ≡ true
      first p = ap is_after (orders.turn r u ∙ ap turned p)

      go : (o : Order) → order t r ≡ o → Passed states u (insert order (plus states) t T) (suc (place_of states t T))
          → Passed states u (inserted order (plus states) o t r T (insert order (plus states) t T)) (suc (cond (is_after o) (suc (place_of states t T)) 0))
      go before q ih zero l = ap is_after (orders.turn t u ∙ ap turned e)
      go before q ih (suc j) l = absurd (omega arith)
      go same q ih zero l = ap is_after (laws.right u r _) ∙ first (sym (orders.like t r u q) ∙ e)
      go same q ih (suc j) l = absurd (omega arith)
      go after q ih zero l = first (orders.onward r t u (orders.turn t r ∙ ap turned q) e)
      go after q ih (suc j) l = ih j (le_of_suc-le-suc l)

  pub place_below : (t : A) (T : List A) → suc (place_of states t T) ≤ length (insert order (plus states) t T)
  unfolding insert place_of
  place_below t [] = omega arith
  place_below t (r ∷ T) = go (order t r) (place_below t T)
    where
      go : (o : Order) → suc (place_of states t T) ≤ length (insert order (plus states) t T)
          → suc (cond (is_after o) (suc (place_of states t T)) 0) ≤ length (inserted order (plus states) o t r T (insert order (plus states) t T))
      go before h = omega arith
      go same h = omega arith
      go after h = omega arith

  -- a table has no fewer states with what comes in
  length_grows : (s : A) (T : List A) → length T ≤ length (insert order (plus states) s T)
  unfolding insert
  length_grows s [] = omega arith
  length_grows s (t ∷ T) = go (order s t) (length_grows s T)
    where
      go : (o : Order) → length T ≤ length (insert order (plus states) s T) → suc (length T) ≤ length (inserted order (plus states) o s t T (insert order (plus states) s T))
      go before h = omega arith
      go same h = omega arith
      go after h = omega arith

  pub add_grows : (S T : List A) → length T ≤ length (add states S T)
  unfolding add insert_all
  add_grows [] T = omega arith
  add_grows (s ∷ S) T = go (eqb (units s) 0) (add_grows S T) (add_grows S (insert order (plus states) s T))
    where
      go : (b : Bool) → length T ≤ length (insert_all order (plus states) (present states S) T)
          → length (insert order (plus states) s T) ≤ length (insert_all order (plus states) (present states S) (insert order (plus states) s T))
          → length T ≤ length (insert_all order (plus states) (cond b (present states S) (s ∷ present states S)) T)
      go true h h' = h
      go false h h' = omega (arith, h', length_grows s T)

  -- ---- states of 0 units vanish

  pub added_one : (s : A) (n r : ℕ) (T T' : List A) → (units s ≡ 0 → ⊥) → Inserted states s n r T T' → Added states (s ∷ []) n r T T'
  unfolding add insert_all
  added_one s n r T T' some h = record { count = h.count ∙ ap length (sym is); table = h.table ∙ sym is }
    where
      is : insert_all order (plus states) (present states (s ∷ [])) (take n T) ≡ insert order (plus states) s (take n T)
      is = rw (ne_eqb (units s) 0 some)

  pub added_none : (s : A) (n : ℕ) (T : List A) → n ≤ length T → units s ≡ 0 → Added states (s ∷ []) n n T T
  unfolding add insert_all
  added_none s n T room none = record { count = sym (length-take-le n T room) ∙ ap length (sym is); table = sym is }
    where
      is : insert_all order (plus states) (present states (s ∷ [])) (take n T) ≡ take n T
      is = rw (eq-eqb (units s) 0 none)

  -- ---- the loop that makes room

  -- the first n states of a table
  module _ (t : List A) (n : ℕ) (room : n ≤ length t) where
    pub rows_from : (i : ℕ) → i < n → drop i (take n t) ≡ state_at t i ∷ drop (i + 1) (take n t)
    rows_from i h = rw (add-one i, ← get_or-take n t i none h) (drop-cons (take n t) i none (omega (arith, length-take-le n t room)))

    pub rows_end_lem : drop n (take n t) ≡ []
    rows_end_lem = ap (λ (k : ℕ). drop k (take n t)) (sym (length-take-le n t room)) ∙ drop-length (take n t)

  -- ---- room for a state: the states from the last down to place j + 1 moved up by one place

  unfoldable pub moved : ℕ → ℕ → List A → List A
  moved j n t = take (suc j) t ++ (drop j (take n t) ++ drop (suc n) t)

  module _ (t : List A) (n : ℕ) (room : n < length t) where
    pub moved_none : t ≡ moved n n t
    unfolding moved
    moved_none = sym (rw (rows_end_lem t n (omega arith)) (take-append-drop (suc n) t))

    -- the state at j, before what has moved
    moved_split : (j : ℕ) → j ≤ n → moved j n t ≡ take j t ++ (state_at t j ∷ (drop j (take n t) ++ drop (suc n) t))
    unfolding moved
    moved_split j h = rw (take-suc t j none (omega arith)) (append_snoc (take j t) (state_at t j) (drop j (take n t) ++ drop (suc n) t))

    moved_at : (j : ℕ) → suc j ≤ n → state_at (moved (suc j) n t) j ≡ state_at t j
    unfolding moved
    moved_at j h =
        get_or-append (take (suc (suc j)) t) _ none j (omega (arith, length-take-le (suc (suc j)) t (omega arith)))
        ∙ get_or-take (suc (suc j)) t j none (omega arith)

    moved_tail : (j : ℕ) → suc j ≤ n → moved j n t ≡ take (suc j) t ++ (state_at t j ∷ (drop (suc j) (take n t) ++ drop (suc n) t))
    unfolding moved
    moved_tail j h = ap (λ (l : List A). take (suc j) t ++ (l ++ drop (suc n) t)) (rw add-one at (rows_from t n (omega arith) j h))

    -- one more state moves up
    pub moved_more : (j : ℕ) → suc j ≤ n → set (moved (suc j) n t) (suc j) (state_at (moved (suc j) n t) j) ≡ moved j n t
    moved_more j h =
        rw (moved_at j h, moved_split (suc j) h)
        (set_at (take (suc j) t) _ _ (state_at t j) (suc j) (length-take-le (suc j) t (omega arith)) ∙ sym (moved_tail j h))

    -- a turn of the loop that moves them: w is the table at its head, x the state below j, and w' the table after the store
    pub moved_turn : (j : ℕ) (w w' : List A) (x : A) → 0 < j → j ≤ n → w ≡ moved j n t → x ≡ state_at w (j - 1) → w' ≡ set w j x
        → w' ≡ moved (j - 1) n t
    moved_turn zero w w' x l h p q r = absurd (omega arith)
    moved_turn (suc j) w w' x l h p q r =
        let e : suc j - 1 ≡ j = omega arith in
        rw e (r ∙ rw (q, e, p) (moved_more j h))

    -- those from place j on, copied to the place behind it at once
    pub moved_pasted : (j : ℕ) → j ≤ n → paste t (j + 1) (drop j t) (n - j) ≡ moved j n t
    unfolding moved
    moved_pasted j h =
        append_assoc (take (j + 1) t) (take (n - j) (drop j t)) (drop (j + 1 + (n - j)) t)
        ∙ ap₂ (λ (front rest : List A). front ++ rest) (ap (λ (k : ℕ). take k t) (add-one j))
        (ap₂ (λ (front rest : List A). front ++ rest) (sym (drop-take j (n - j) t) ∙ ap (λ (k : ℕ). drop j (take k t)) all) (ap (λ (k : ℕ). drop k t) behind))
      where
        all : j + (n - j) ≡ n
        all = omega arith

        behind : j + 1 + (n - j) ≡ suc n
        behind = omega arith

    -- s is stored at the place i that the loop has come to
    pub moved_end : (i j : ℕ) (s : A) (w w' : List A) → i ≡ j → j ≤ n → w ≡ moved j n t → w' ≡ set w i s
        → take (suc n) w' ≡ take i t ++ (s ∷ drop i (take n t))
    moved_end i j s w w' e h p q =
        ap (take (suc n)) is
        ∙ ap (take (suc n)) (sym (append_assoc (take j t) (s ∷ drop j (take n t)) (drop (suc n) t)))
        ∙ take_at (take j t ++ (s ∷ drop j (take n t))) (drop (suc n) t) (suc n) long
        ∙ rw e
      where
        is : w' ≡ take j t ++ (s ∷ (drop j (take n t) ++ drop (suc n) t))
        is = q ∙ rw (p, e, moved_split j h) (set_at (take j t) _ _ s j (length-take-le j t (omega arith)))

        long : length (take j t ++ (s ∷ drop j (take n t))) ≡ suc n
        long =
            omega (
              arith,
              length-append (take j t) (s ∷ drop j (take n t)),
              length-take-le j t (omega arith),
              length-drop j (take n t),
              length-take-le n t (omega arith),
            )
