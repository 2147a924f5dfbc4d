-- The limits are kept: at most K contents after the reduction of an access and of a join, at most W - 1 cells after the row ends. The row ends bring in no contents, and what
-- comes after them changes no mask and no miss count.
use Rattle.std.specs.Prelude.{None, Some}
use mathlib.Core.Path.{◌≡◌, refl, sym, ap, ◌∙◌}
use mathlib.Core.Logic.{◌≢◌}
use mathlib.Core.Bool.{Bool, true, false, cond}
use mathlib.Core.List.{List, [], ◌∷◌, ◌++◌, map, flat_map}
use Prim.Native.Nat.{ℕ, suc, ◌+◌, ◌-◌, ◌*◌, ◌/◌, ◌%◌, ◌≤◌, ◌<◌, max, min}
use native.Mathlib.Nat.{le-max_right, max-le, min-le_left}
use native.Mathlib.Omega.{arith}
use lib.Dec.{ltb}
use lib.ListN.{length}
use borrow.Author.Tests.{ltb-false}
use Rattle.rules.specs.declared.State.{State}
use Rattle.rules.specs.declared.Target.{Target}
use Rattle.rules.specs.AnyTable.{access as access_of}
use Rattle.rules.specs.Contents.{places, bit, has, hits, without, shared, held, size, Place}
use Rattle.rules.specs.Table.{units_of}
use Rattle.rules.specs.Step.{at_risk, missed, rest_of, miss, successors, access}
use Rattle.rules.specs.Shape.{Every, Aimed}
use Rattle.rules.proofs.Lists.{every_append, every_map, every_flat_map, every_weaker}
use Rattle.rules.proofs.Contents.{with_new, every_held}
use Rattle.rules.proofs.Sets.{both_shared}
use Rattle.rules.proofs.Table.{every_add}
use Rattle.tight_rules.specs.Rows.{Rows, contents, move, moved, narrow, narrowed}
use Rattle.tight_rules.specs.Reduction.{reduced}
use Rattle.tight_rules.specs.Ends.{up_to, cut, raise, raised, highest, lowest, ends}
use Rattle.tight_rules.specs.Run.{alive, stepped}
use Rattle.tight_rules.proofs.Moves.{Fit, sure_narrowed}
use Rattle.tight_rules.proofs.Few.{move_every, good_none, reduced_few}
use Rattle.tight_rules.proofs.Runs.{after_fit}
use Rattle.tight_rules.proofs.Joins.{mid, mid_fit}

-- ---- the accessed block is held by all

module _ (N : ℕ) (x : Target) where
  abbrev Has : State → Type 0
  Has s = (i : ℕ) → x.place ≡ Some i → bit s.mask i ≡ true

  successors_have : (s : State) → Every (λ t. units_of t ≢ 0 → Has t) (successors N x s)
  unfolding successors miss
  successors_have s = go (hits x s.mask) refl
    where
      C : ℕ
      C = s.mask

      E : ℕ
      E = at_risk N x s.filled C

      new : (D u : ℕ) → Has (missed N x s D u)
      new D u i e = rw e (with_new D i)

      go : (a : Bool) → hits x C ≡ a
          → Every (λ t. units_of t ≢ 0 → Has t)
          (cond a (s ∷ []) (map (λ e. missed N x s (without C e) (units_of s / N)) (held E) ++ missed N x s C ((N - size E) * (units_of s / N)) ∷ missed N x s (rest_of C E) (units_of s % N) ∷ []))
      go true h = (λ n i e. ap (λ (z : Place). has C x.again z) (sym e) ∙ h, tt)
      go false h =
          every_append (λ t. units_of t ≢ 0 → Has t) (map (λ e. missed N x s (without C e) (units_of s / N)) (held E)) _
          (every_map (λ e. (e < places) × (bit E e ≡ true)) (λ t. units_of t ≢ 0 → Has t) (λ e. missed N x s (without C e) (units_of s / N))
          (λ e p n. new (without C e) (units_of s / N)) (held E) (every_held E))
          (λ n. new C ((N - size E) * (units_of s / N)), (λ n. new (rest_of C E) (units_of s % N), tt))

  access_has : (T : List State) → Every Has (access N x T)
  unfolding access_of
  access_has T =
      every_add Has (λ t s p. p) (flat_map (successors N x) T) []
      (every_flat_map (λ s. Unit {0}) (λ t. units_of t ≢ 0 → Has t) (successors N x) (λ s h. successors_have s) T (each T)) tt
    where
      each : (T : List State) → Every (λ s. Unit {0}) T
      each [] = tt
      each (s ∷ T) = (tt, each T)

-- ---- at most K contents

module _ (N Z : ℕ) (ts : List ℕ) (K : ℕ) (room : length ts ≤ places) (states : 0 < K) (M : ℕ) where
  pub access_few : 0 < N → N ≤ 16 → (x : Target) → Aimed Z ts x → (r : Rows) → Fit N Z ts M r → (L : ℕ)
      → length (contents (reduced K (length ts) (alive L x.place) (narrowed L (stepped N x r.kept))).table) ≤ K
  unfolding narrowed stepped
  access_few some few x aim r fit L =
      reduced_few N Z ts (suc M) K (alive L x.place) r.lost room states (narrowed L (stepped N x r.kept))
      (sure_narrowed N Z ts (suc M) (λ C m F. 0) 0 (good_none N Z ts (suc M) K None r.lost) L (stepped N x r.kept) r.lost (after_fit N Z ts some few M x aim r fit)).fit
      (move_every (λ C. (i : ℕ) → alive L x.place ≡ Some i → bit C i ≡ true) (narrow L) (access N x r.kept.table)
      (every_weaker (Has N x) (λ s. (i : ℕ) → alive L x.place ≡ Some i → bit (shared s.mask L) i ≡ true) (λ s h. stays x.place s.mask h)
      (access N x r.kept.table) (access_has N x r.kept.table)))
    where
      stays : (y : Place) (C : ℕ) → ((i : ℕ) → y ≡ Some i → bit C i ≡ true) → (i : ℕ) → alive L y ≡ Some i → bit (shared C L) i ≡ true
      stays None C h i e = absurd (let z : ◌≡◌ {A = ℕ} 0 1 = cc in omega arith)
      stays (Some j) C h i e = go (bit L j) refl e
        where
          go : (b : Bool) → bit L j ≡ b → cond b (Some j) None ≡ Some i → bit (shared C L) i ≡ true
          go true q e = let z : j ≡ i = cc in rw (← z) (both_shared C L j (h j refl) q)
          go false q e = absurd (let z : ◌≡◌ {A = ℕ} 0 1 = cc in omega arith)

  -- whatever is set aside so far
  pub join_few : (k a : ℕ) (q r : Rows) (left : Fit N Z ts M q) (right : Fit N Z ts M r)
      → length (contents (reduced K (length ts) None (mid N Z ts M K k a q r left right).kept).table) ≤ K
  join_few k a q r left right =
      reduced_few N Z ts M K None (mid N Z ts M K k a q r left right).lost room states (mid N Z ts M K k a q r left right).kept (mid_fit N Z ts M K k a q r left right)
      (each (mid N Z ts M K k a q r left right).kept.table)
    where
      each : (T : List State) → Every (λ s. (i : ℕ) → None ≡ Some i → bit s.mask i ≡ true) T
      each [] = tt
      each (s ∷ T) = (λ i e. absurd (let z : ◌≡◌ {A = ℕ} 0 1 = cc in omega arith), each T)

-- ---- at most W - 1 cells

up_to_most : (H : ℕ) (T : List State) → Every (λ s. s.misses ≤ H) (up_to H T)
up_to_most H [] = tt
up_to_most H (s ∷ T) = go (ltb H s.misses) refl (up_to_most H T)
  where
    go : (b : Bool) → ltb H s.misses ≡ b → Every (λ s. s.misses ≤ H) (up_to H T) → Every (λ s. s.misses ≤ H) (cond b (up_to H T) (s ∷ up_to H T))
    go true e r = r
    go false e r = (ltb-false H s.misses e, r)

-- from a lowest to a highest miss count, which are less than W - 1 apart
pub ends_cells : (W : ℕ) → 2 ≤ W → (r : Rows)
    → (B : ℕ) × (H : ℕ) × (H + 2 ≤ B + W) × Every (λ s. (B ≤ s.misses) × (s.misses ≤ H)) (ends W r).kept.table
unfolding ends raised moved move lowest cut
ends_cells W two r = (
  lowest W H U,
  H,
  apart _,
  every_add (λ s. (lowest W H U ≤ s.misses) × (s.misses ≤ H)) (λ t s p. p) (map (raise (lowest W H U)) U) []
      (every_map (λ s. s.misses ≤ H) (λ s. units_of s ≢ 0 → (lowest W H U ≤ s.misses) × (s.misses ≤ H)) (raise (lowest W H U))
      (λ s l n. (le-max_right s.misses (lowest W H U), max-le l (min-le_left H _))) U (up_to_most H r.kept.table)) tt,
)
  where
    H : ℕ
    H = highest r.kept.table

    U : List State
    U = up_to H r.kept.table

    apart : (m : ℕ) → H + 2 ≤ min H (max m (H + 2 - W)) + W
    apart m = omega (arith, le-max_right m (H + 2 - W))
