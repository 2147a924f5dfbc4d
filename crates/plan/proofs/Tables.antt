-- Tables whose contents are renamed. A table that rises, each of whose states has units, is known by what it is worth to every weight; so contents may be renamed in one step or in two, and the units of
-- contents are those of all that are renamed to it. How many contents a table has is how many masks have units.
use mathlib.Core.Path.{◌≡◌, refl, sym, ap, ap₂, ◌∙◌, subst}
use mathlib.Core.Logic.{◌≢◌}
use mathlib.Core.Bool.{Bool, true, false, cond}
use mathlib.Core.List.{List, [], ◌∷◌, map}
use Prim.Native.Nat.{ℕ, ◌+◌, ◌*◌, ◌≤◌, ◌<◌}
use native.Mathlib.Nat.{le_refl, le_trans, le_of_eq, zero-add}
use native.Mathlib.Omega.{arith}
use lib.Dec.{eqb, ltb}
use lib.ListN.{length}
use borrow.Author.Tests.{eqb-true, eqb-false, eq-eqb, ne_eqb, lt-ltb, le-ltb}
use Rattle.basics.proofs.Bools.{same_test}
use Rattle.basics.proofs.Sums.{sum_map, sum_on, on_eq, on_none, on_point}
use Rattle.rules.specs.declared.State.{State}
use Rattle.rules.specs.Units.{whole}
use Rattle.rules.specs.Ordered.{Order, before, same, after, by_number, then_by, by_two}
use Rattle.rules.specs.AnyTable.{total as total_of}
use Rattle.rules.specs.Table.{state, units_of, order, add, total}
use Rattle.rules.specs.Shape.{Every}
use Rattle.rules.proofs.Lists.{every_map, every_weaker}
use Rattle.rules.proofs.Splitting.{more_least}
use Rattle.rules.proofs.Ordered.{turned, state_orders, order_same, number_cases}
use Rattle.rules.proofs.Table.{Rising, Weight, weight_of, worth_of, worth, one, worth_add, total_add, rising_add, every_add}
use Rattle.tight_rules.specs.Rows.{contents, listed, units_in, move}
use Rattle.plan.specs.Plan.{relabelled}

-- each state has units
abbrev pub Positive : List State → Type 0
Positive T = Every (λ s. 1 ≤ units_of s) T

-- ---- a table is known by what it is worth

abbrev is_same : Order → Bool
is_same before = false
is_same same = true
is_same after = false

-- a weight that is 1 in the place of s, and 0 elsewhere
abbrev place_of : State → Weight
place_of s C m F = cond (is_same (order s (state C m F 0))) 1 0

by_place : (s t : State) → weight_of (place_of s) t ≡ cond (is_same (order s t)) 1 0
unfolding order
by_place s t = refl

same_self : (s : State) → order s s ≡ same
same_self s = go (order s s) (state_orders.turn s s)
  where
    go : (o : Order) → o ≡ turned o → o ≡ same
    go before e = let z : ◌≡◌ {A = ℕ} 0 1 = cc in absurd (omega arith)
    go same e = refl
    go after e = let z : ◌≡◌ {A = ℕ} 0 1 = cc in absurd (omega arith)

worth_here : (s t : State) → order s t ≡ same → worth_of (place_of s) t ≡ units_of t
worth_here s t e = rw (by_place s t, e) (omega arith)

-- what stands after s is not in its place
worth_none : (s : State) (T : List State) → Every (λ t. order s t ≡ before) T → worth (place_of s) T ≡ 0
worth_none s [] h = refl
worth_none s (t ∷ T) h = rw (by_place s t, h.0) (omega (arith, worth_none s T h.1))

-- where s stands before all of T, T has nothing in its place
not_first : (s t : State) (S T : List State) → order s t ≡ before → 1 ≤ units_of s → Every (λ u. order t u ≡ before) T → worth (place_of s) (s ∷ S) ≡ worth (place_of s) (t ∷ T) → ⊥
not_first s t S T e some h w =
    let none : worth (place_of s) (t ∷ T) ≡ 0 = worth_none s (t ∷ T) (e, every_weaker (λ u. order t u ≡ before) (λ u. order s u ≡ before) (λ u. state_orders.onward s t u e) T h) in
    omega (arith, worth_here s s (same_self s))

state_same : (s t : State) → order s t ≡ same → units_of s ≡ units_of t → s ≡ t
state_same s t e u = let (a, b, c) = order_same s t e in rw (a, b, c, u) refl

pub same_tables : (S T : List State) → Rising S → Rising T → Positive S → Positive T → ((f : Weight) → worth f S ≡ worth f T) → S ≡ T
same_tables [] [] r q a b w = refl
same_tables [] (t ∷ T) r q a b w = absurd (omega (arith, w one, b.0))
same_tables (s ∷ S) [] r q a b w = absurd (omega (arith, w one, a.0))
same_tables (s ∷ S) (t ∷ T) r q a b w = go (order s t) refl (λ e. same_tables S T r.1 q.1 a.1 b.1 (rest e))
  where
    rest : s ≡ t → (f : Weight) → worth f S ≡ worth f T
    rest e f = omega (arith, w f, ap (worth_of f) e)

    go : (o : Order) → order s t ≡ o → (s ≡ t → S ≡ T) → s ∷ S ≡ t ∷ T
    go before e ih = absurd (not_first s t S T e a.0 q.0 (w (place_of s)))
    go same e ih = ap₂ ◌∷◌ alike (ih alike)
      where
        alike : s ≡ t
        alike =
            state_same s t e
            (let x : worth (place_of s) S ≡ 0 = worth_none s S r.0 in
            let z : worth (place_of s) T ≡ 0 = worth_none s T (every_weaker (λ u. order t u ≡ before) (λ u. order s u ≡ before) (λ u h. state_orders.like s t u e ∙ h) T q.0) in
            omega (arith, w (place_of s), worth_here s s (same_self s), worth_here s t e))
    go after e ih = absurd (not_first t s T S (state_orders.turn s t ∙ ap turned e) b.0 r.0 (sym (w (place_of t))))

-- ---- renaming

module _ (g : ℕ → ℕ) (T : List State) where
  map_total : total (map (relabelled g) T) ≡ total T
  unfolding total_of
  map_total = sum_map units_of (relabelled g) T

  room_to_add : total T ≤ whole → total (map (relabelled g) T) + total [] ≤ whole
  unfolding total_of
  room_to_add full = omega (arith, map_total)

  pub moved_worth : (f : Weight) → total T ≤ whole → worth f (move (relabelled g) T) ≡ worth (λ C m F. f (g C) m F) T
  unfolding move
  moved_worth f full = worth_add f (map (relabelled g) T) [] (room_to_add full) ∙ omega (arith, sum_map (worth_of f) (relabelled g) T)

  pub moved_total : total T ≤ whole → total (move (relabelled g) T) ≡ total T
  unfolding move total_of
  moved_total full = total_add (map (relabelled g) T) [] (room_to_add full) ∙ omega (arith, map_total)

  pub moved_rising : Rising (move (relabelled g) T)
  unfolding move
  moved_rising = rising_add (map (relabelled g) T) [] tt

  pub moved_positive : Positive T → Positive (move (relabelled g) T)
  unfolding move
  moved_positive all =
      every_add (λ s. 1 ≤ units_of s) (λ t s p. more_least (units_of t) (units_of s) p) (map (relabelled g) T) []
      (every_map (λ s. 1 ≤ units_of s) (λ s. units_of s ≢ 0 → 1 ≤ units_of s) (relabelled g) (λ s p n. p) T all) tt

-- where g and h rename the contents of T alike
pub move_alike : (g h : ℕ → ℕ) (T : List State) → Every (λ s. g s.mask ≡ h s.mask) T → move (relabelled g) T ≡ move (relabelled h) T
unfolding move
move_alike g h T all = ap (λ (S : List State). add S []) (each T all)
  where
    each : (T : List State) → Every (λ s. g s.mask ≡ h s.mask) T → map (relabelled g) T ≡ map (relabelled h) T
    each [] all = refl
    each (s ∷ T) all = ap₂ ◌∷◌ (ap (λ (C : ℕ). state C s.misses s.filled (units_of s)) all.0) (each T all.1)

pub move_twice : (g h : ℕ → ℕ) (T : List State) → Positive T → total T ≤ whole → move (relabelled h) (move (relabelled g) T) ≡ move (relabelled (λ C. h (g C))) T
move_twice g h T some full =
    same_tables _ _ (moved_rising h U) (moved_rising (λ C. h (g C)) T) (moved_positive h U (moved_positive g T some)) (moved_positive (λ C. h (g C)) T some)
    (λ f. moved_worth h U f (le_trans (le_of_eq (moved_total g T full)) full) ∙ moved_worth g T (λ C m F. f (h C) m F) full ∙ sym (moved_worth (λ C. h (g C)) T f full))
  where
    U : List State
    U = move (relabelled g) T

pub move_none : (T : List State) → Rising T → Positive T → total T ≤ whole → T ≡ move (relabelled (λ C. C)) T
move_none T rises some full =
    same_tables _ _ rises (moved_rising (λ C. C) T) some (moved_positive (λ C. C) T some) (λ f. sym (moved_worth (λ C. C) T f full))

-- ---- the units of contents

-- C is renamed D, and nothing else
abbrev pub only_to : ℕ → ℕ → ℕ → ℕ
only_to C D X = cond (eqb X C) D X

-- a weight that is 1 at the contents X
abbrev at_mask : ℕ → Weight
at_mask X C m F = cond (eqb C X) 1 0

units_worth : (X : ℕ) (T : List State) → units_in X T ≡ worth (at_mask X) T
unfolding units_in
units_worth X [] = refl
units_worth X (s ∷ T) = go (eqb s.mask X) (units_worth X T)
  where
    go : (b : Bool) → units_in X T ≡ worth (at_mask X) T → cond b (units_of s) 0 + units_in X T ≡ units_of s * cond b 1 0 + worth (at_mask X) T
    go true e = omega arith
    go false e = omega arith

eqb_swap : (a b : ℕ) → eqb a b ≡ eqb b a
eqb_swap a b = same_test (eqb a b) (eqb b a) (λ e. eq-eqb b a (sym (eqb-true a b e))) (λ e. eq-eqb a b (sym (eqb-true b a e)))

-- the units of C are with D then
units_sum : (C D X : ℕ) (T : List State)
    → worth (λ E m F. at_mask X (only_to C D E) m F) T + cond (eqb X C) (units_in C T) 0 ≡ units_in X T + cond (eqb X D) (units_in C T) 0
unfolding units_in
units_sum C D X [] = go (eqb X C) (eqb X D)
  where
    go : (x d : Bool) → 0 + cond x 0 0 ≡ 0 + cond d 0 0
    go true true = refl
    go true false = refl
    go false true = refl
    go false false = refl
units_sum C D X (s ∷ T) = go (eqb s.mask C) refl (units_sum C D X T)
  where
    u : ℕ
    u = units_of s

    here : (x d : Bool) (W UC UX : ℕ) → W + cond x UC 0 ≡ UX + cond d UC 0 → u * cond d 1 0 + W + cond x (u + UC) 0 ≡ cond x u 0 + UX + cond d (u + UC) 0
    here true true W UC UX e = omega arith
    here true false W UC UX e = omega arith
    here false true W UC UX e = omega arith
    here false false W UC UX e = omega arith

    other : (m x d : Bool) (W UC UX : ℕ) → W + cond x UC 0 ≡ UX + cond d UC 0 → u * cond m 1 0 + W + cond x (0 + UC) 0 ≡ cond m u 0 + UX + cond d (0 + UC) 0
    other m true true W UC UX e = each m
      where
        each : (m : Bool) → u * cond m 1 0 + W + (0 + UC) ≡ cond m u 0 + UX + (0 + UC)
        each true = omega arith
        each false = omega arith
    other m true false W UC UX e = each m
      where
        each : (m : Bool) → u * cond m 1 0 + W + (0 + UC) ≡ cond m u 0 + UX + 0
        each true = omega arith
        each false = omega arith
    other m false true W UC UX e = each m
      where
        each : (m : Bool) → u * cond m 1 0 + W + 0 ≡ cond m u 0 + UX + (0 + UC)
        each true = omega arith
        each false = omega arith
    other m false false W UC UX e = each m
      where
        each : (m : Bool) → u * cond m 1 0 + W + 0 ≡ cond m u 0 + UX + 0
        each true = omega arith
        each false = omega arith

    W : ℕ
    W = worth (λ E m F. at_mask X (only_to C D E) m F) T

    go : (b : Bool) → eqb s.mask C ≡ b → W + cond (eqb X C) (units_in C T) 0 ≡ units_in X T + cond (eqb X D) (units_in C T) 0
        → u * cond (eqb (cond b D s.mask) X) 1 0 + W + cond (eqb X C) (cond b u 0 + units_in C T) 0 ≡ cond (eqb s.mask X) u 0 + units_in X T + cond (eqb X D) (cond b u 0 + units_in C T) 0
    go true e h =
        rw (eqb_swap D X, eqb-true s.mask C e, eqb_swap C X) (here (eqb X C) (eqb X D) W (units_in C T) (units_in X T) h)
    go false e h = other (eqb s.mask X) (eqb X C) (eqb X D) W (units_in C T) (units_in X T) h

pub units_moved : (C D X : ℕ) (T : List State) → total T ≤ whole
    → units_in X (move (relabelled (only_to C D)) T) + cond (eqb X C) (units_in C T) 0 ≡ units_in X T + cond (eqb X D) (units_in C T) 0
units_moved C D X T full =
    ap (◌+ cond (eqb X C) (units_in C T) 0) (units_worth X (move (relabelled (only_to C D)) T) ∙ moved_worth (only_to C D) T (at_mask X) full) ∙ units_sum C D X T

-- contents that none are renamed to have no units then
pub never_to : (g : ℕ → ℕ) (X : ℕ) (T : List State) → total T ≤ whole → ((C : ℕ) → g C ≢ X) → units_in X (move (relabelled g) T) ≡ 0
never_to g X T full never = units_worth X (move (relabelled g) T) ∙ moved_worth g T (at_mask X) full ∙ none T
  where
    none : (T : List State) → worth (λ C m F. at_mask X (g C) m F) T ≡ 0
    none [] = refl
    none (s ∷ T) = rw (ne_eqb (g s.mask) X (never s.mask)) (omega (arith, none T))

-- ---- how many contents

order_mask : (s t : State) → order s t ≡ before → s.mask ≤ t.mask
unfolding order
order_mask s t =
    number_cases s.mask t.mask (λ o. then_by (then_by o (by_number s.misses t.misses)) (by_two (λ s. s.filled.front) (λ s. s.filled.back) s t) ≡ before → s.mask ≤ t.mask)
    (λ l e. omega arith) (λ q e. omega arith) (λ l e. let z : ◌≡◌ {A = ℕ} 0 1 = cc in absurd (omega arith))

units_none : (C : ℕ) (T : List State) → Every (λ t. C < t.mask) T → units_in C T ≡ 0
unfolding units_in
units_none C [] h = refl
units_none C (t ∷ T) h = rw (ne_eqb t.mask C (λ e. omega (arith, h.0))) (omega (arith, units_none C T h.1))

-- what is listed first is first
listed_first : (C : ℕ) (Ds : List ℕ) → (Es : List ℕ) × (listed C Ds ≡ C ∷ Es)
listed_first C [] = ([], refl)
listed_first C (D ∷ Ds) = go (eqb C D) refl
  where
    go : (b : Bool) → eqb C D ≡ b → (Es : List ℕ) × (cond b (D ∷ Ds) (C ∷ D ∷ Ds) ≡ C ∷ Es)
    go true e = (Ds, rw (eqb-true C D e) refl)
    go false e = (D ∷ Ds, refl)

-- how many masks below n have units
abbrev pub having : ℕ → List State → ℕ
having n T = sum_on n (λ C. ltb 0 (units_in C T)) (λ i. 1)

module _ (n : ℕ) (s : State) (T : List State) (some : 1 ≤ units_of s) (below : s.mask < n) where
  others : (C : ℕ) → C ≢ s.mask → units_in C T ≡ units_in C (s ∷ T)
  unfolding units_in
  others C q = rw (ne_eqb s.mask C (λ e. q (sym e))) (sym (zero-add _))

  itself : 0 < units_in s.mask (s ∷ T)
  unfolding units_in
  itself = rw (eq-eqb s.mask s.mask refl) (omega arith)

  one_more_lem : units_in s.mask T ≡ 0 → having n (s ∷ T) ≡ having n T + 1
  one_more_lem none =
      on_point n (λ C. ltb 0 (units_in C T)) (λ C. ltb 0 (units_in C (s ∷ T))) (λ i. 1) s.mask below
      (le-ltb 0 (units_in s.mask T) (omega arith)) (lt-ltb 0 _ itself) (λ i l q. ap (ltb 0) (others i q))

  as_many : 0 < units_in s.mask T → having n T ≡ having n (s ∷ T)
  as_many l =
      on_eq n (λ C. ltb 0 (units_in C T)) (λ C. ltb 0 (units_in C (s ∷ T))) (λ i. 1) (λ i k. go i (eqb i s.mask) refl)
    where
      go : (i : ℕ) (b : Bool) → eqb i s.mask ≡ b → ltb 0 (units_in i T) ≡ ltb 0 (units_in i (s ∷ T))
      go i true e = rw (eqb-true i s.mask e) (lt-ltb 0 (units_in s.mask T) l ∙ sym (lt-ltb 0 _ itself))
      go i false e = ap (ltb 0) (others i (eqb-false i s.mask e))

pub contents_count : (n : ℕ) (T : List State) → Rising T → Positive T → Every (λ s. s.mask < n) T → length (contents T) ≡ having n T
unfolding contents units_in
contents_count n [] r a b = sym (on_none n (λ C. ltb 0 (units_in C [])) (λ i. 1) (λ i l. le-ltb 0 0 (le_refl 0)))
contents_count n (s ∷ []) r a b = rw (one_more_lem n s [] a.0 b.0 refl) (ap (◌+ 1) (contents_count n [] tt tt tt))
contents_count n (s ∷ t ∷ T) r a b = go (listed_first t.mask (contents T)) (eqb s.mask t.mask) refl (contents_count n (t ∷ T) r.1 a.1 b.1)
  where
    next : 0 < units_in t.mask (t ∷ T)
    next = itself n t T a.1.0 b.1.0

    higher : (s.mask ≡ t.mask → ⊥) → Every (λ u. s.mask < u.mask) (t ∷ T)
    higher q =
        let l : s.mask < t.mask = omega (arith, order_mask s t r.0.0, q) in
        (l, every_weaker (λ u. order t u ≡ before) (λ u. s.mask < u.mask) (λ u h. omega (arith, order_mask t u h)) T r.1.0)

    go : (Es : List ℕ) × (listed t.mask (contents T) ≡ t.mask ∷ Es) → (b₁ : Bool) → eqb s.mask t.mask ≡ b₁ → length (contents (t ∷ T)) ≡ having n (t ∷ T)
        → length (listed s.mask (contents (t ∷ T))) ≡ having n (s ∷ t ∷ T)
    go (Es, first) true e ih =
        rw (first, e) (sym (ap length first) ∙ ih ∙ as_many n s (t ∷ T) a.0 b.0 (subst (λ (m : ℕ). 0 < units_in m (t ∷ T)) (sym (eqb-true s.mask t.mask e)) next))
    go (Es, first) false e ih =
        rw (first, e) (omega (arith, ap length first, ih, one_more_lem n s (t ∷ T) a.0 b.0 (units_none s.mask (t ∷ T) (higher (eqb-false s.mask t.mask e)))))
