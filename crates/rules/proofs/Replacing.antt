-- A fold in which one of the two states stays where it is. Taking out both and putting in what they become, which stands in the place of one of them, is
-- to take out the other one and to write over that one (`kept`). In which order the two are taken out does not matter (`removed_both`).
use mathlib.Core.Path.{◌≡◌, refl, sym, ap, ◌∙◌}
use mathlib.Core.Logic.{◌≢◌}
use mathlib.Core.Bool.{Bool, true, false, cond}
use mathlib.Core.List.{List, [], ◌∷◌}
use Prim.Native.Nat.{ℕ, zero, suc, ◌-◌, ◌≤◌, ◌<◌}
use native.Mathlib.Nat.{not-suc-le-zero, le_of_suc-le-suc}
use native.Mathlib.Omega.{arith}
use lib.Dec.{ltb}
use lib.ListN.{length, get_or, set}
use borrow.Author.Tests.{lt-ltb, le-ltb, ltb-true, ltb-false, ne_eqb}
use Rattle.rules.specs.Ordered.{Order, same, after, insert, insert_all, remove}
use Rattle.rules.specs.AnyTable.{add as add_any}
use Rattle.rules.specs.Table.{State, units_of, order, plus, no_state, state_at, add}
use Rattle.rules.proofs.Lists.{length_remove}
use Rattle.rules.proofs.Ordered.{InOrder, Orders, turned, in_order_remove, state_orders}
use Rattle.rules.proofs.Table.{Rising}
use Rattle.rules.proofs.Partners.{among, past_among, others_at, in_order_at}

-- ---- two taken out

module _ {A : Type 0} where
  -- the earlier one last, or first
  removed_swap : (p i : ℕ) (T : List A) → p ≤ i → remove p (remove (suc i) T) ≡ remove i (remove p T)
  unfolding remove
  removed_swap p i [] l = refl
  removed_swap zero i (t ∷ T) l = refl
  removed_swap (suc p) zero (t ∷ T) l = absurd (not-suc-le-zero l)
  removed_swap (suc p) (suc i) (t ∷ T) l = ap (t ∷◌) (removed_swap p i T (le_of_suc-le-suc l))

  pub removed_both : (i p : ℕ) (T : List A) → p ≢ i → remove (among i p) (remove i T) ≡ remove (among p i) (remove p T)
  removed_both i p T n = go (ltb i p) refl
    where
      later : (a b : ℕ) → a < b → remove (b - 1) (remove a T) ≡ remove a (remove b T)
      later a b l =
          let e : suc (b - 1) ≡ b = omega arith in
          sym (removed_swap a (b - 1) T (omega arith)) ∙ ap (λ (n : ℕ). remove a (remove n T)) e

      go : (c : Bool) → ltb i p ≡ c → remove (cond c (p - 1) p) (remove i T) ≡ remove (among p i) (remove p T)
      go true e = let l : i < p = ltb-true i p e in rw (le-ltb p i (omega arith)) (later i p l)
      go false e = let l : p < i = omega (arith, ltb-false i p e, n) in rw (lt-ltb p i l) (sym (later p i l))

-- ---- one put back

module _ {A : Type 0} (o : A → A → Order) (orders : Orders o) (add : A → A → A) (z : A) where
  -- s comes in where the one at place i stood
  pub put_back : (s : A) (i : ℕ) (T : List A) → InOrder o T → i < length T → o s (get_or T i z) ≡ same → insert o add s (remove i T) ≡ set T i s
  unfolding insert remove
  put_back s i [] h l e = absurd (not-suc-le-zero l)
  put_back s zero (t ∷ []) h l e = refl
  put_back s zero (t ∷ u ∷ T) h l e = rw (orders.like s t u e ∙ h.0.0)
  put_back s (suc i) (t ∷ T) h l e = rw passes (ap (t ∷◌) (put_back s i T h.1 (le_of_suc-le-suc l) e))
    where
      passes : o s t ≡ after
      passes =
          orders.like s (get_or T i z) t e
          ∙ orders.turn t (get_or T i z)
          ∙ ap turned (in_order_at o z (t ∷ T) h 0 (suc i) (omega arith) l)

-- ---- in a table

-- the place of one of two among the others is one of them
pub among_within : (i p n : ℕ) → i < n → p < n → p ≢ i → suc (among i p) < n
among_within i p n l m d = go (ltb i p) refl
  where
    go : (b : Bool) → ltb i p ≡ b → suc (cond b (p - 1) p) < n
    go true e = omega (arith, ltb-true i p e)
    go false e = omega (arith, ltb-false i p e, d)

-- the states at places i and p go, and m, which stands where the one at place i stood, comes
pub kept : (T : List State) (i p : ℕ) (m : State) → Rising T → i < length T → p < length T → p ≢ i → order m (state_at T i) ≡ same → units_of m ≢ 0
    → add (m ∷ []) (remove (among i p) (remove i T)) ≡ set (remove p T) (among p i) m
unfolding add_any insert_all
kept T i p m h l k n e some =
    rw (ne_eqb (units_of m) 0 some, removed_both i p T n)
    (put_back order state_orders plus no_state m (among p i) (remove p T) (in_order_remove order p T h)
    (omega (arith, length_remove p T k, among_within p i (length T) k l (λ d. n (sym d)))) there)
  where
    there : order m (state_at (remove p T) (among p i)) ≡ same
    there = rw (others_at no_state p (among p i) T, past_among p i (λ d. n (sym d))) e
