-- States of any kind added to a table: it keeps rising, it grows by no more states than are listed, each state keeps what adding does not
-- break, and it is worth what both were. The worth of a table is its units, each times a weight that does not look at units: with the weight 1 the
-- total, with others what a promise is about.
use mathlib.Core.Path.{◌≡◌, refl, sym, ap, ap₂, ◌∙◌}
use mathlib.Core.Logic.{◌≢◌}
use mathlib.Core.Bool.{Bool, true, false, cond}
use mathlib.Core.List.{List, [], ◌∷◌, ◌++◌, flat_map}
use Prim.Native.Nat.{ℕ, zero, suc, ◌+◌, ◌*◌, ◌≤◌}
use native.Mathlib.Omega.{arith}
use lib.Dec.{eqb}
use lib.ListN.{length}
use borrow.Author.Tests.{eqb-true, eqb-false}
use Rattle.basics.specs.Sums.{sum_over}
use Rattle.rules.specs.Units.{whole, more}
use Rattle.rules.specs.Ordered.{before, same, after, insert, insert_all, remove}
use Rattle.rules.specs.AnyTable.{Listing, plus, present, add, total, at}
use Rattle.rules.specs.Shape.{Every, Present}
use Rattle.rules.proofs.Splitting.{more_adds, more_least}
use Rattle.rules.proofs.Ordered.{Sorts, InOrder, length_insert_all, every_insert_all, sum_insert_all, in_order_insert_all}

module _ {A : Type 0} (l : Listing A) where
  -- ---- states of 0 units vanish

  pub length_present : (S : List A) → length (present l S) ≤ length S
  length_present [] = omega arith
  length_present (s ∷ S) = go (eqb (l.units s) 0) (length_present S)
    where
      go : (b : Bool) → length (present l S) ≤ length S → length (cond b (present l S) (s ∷ present l S)) ≤ suc (length S)
      go true h = omega arith
      go false h = omega arith

  pub length_present_append : (S T : List A) → length (present l (S ++ T)) ≡ length (present l S) + length (present l T)
  length_present_append [] T = omega arith
  length_present_append (s ∷ S) T = go (eqb (l.units s) 0) (length_present_append S T)
    where
      go : (b : Bool) → length (present l (S ++ T)) ≡ length (present l S) + length (present l T)
          → length (cond b (present l (S ++ T)) (s ∷ present l (S ++ T))) ≡ length (cond b (present l S) (s ∷ present l S)) + length (present l T)
      go true h = h
      go false h = omega arith

  -- where each state is followed by at most n
  pub length_follow : (n : ℕ) (follow : A → List A) (T : List A) → Every (λ s. length (present l (follow s)) ≤ n) T → length (present l (flat_map follow T)) ≤ length T * n
  unfolding flat_map
  length_follow n follow [] h = omega arith
  length_follow n follow (s ∷ T) h = omega (arith, length_present_append (follow s) (flat_map follow T), h.0, length_follow n follow T h.1)

  pub every_present : (P : A → Type 0) (S : List A) → Every (λ s. l.units s ≢ 0 → P s) S → Every P (present l S)
  every_present P [] h = tt
  every_present P (s ∷ S) h = go (eqb (l.units s) 0) refl (every_present P S h.1)
    where
      go : (b : Bool) → eqb (l.units s) 0 ≡ b → Every P (present l S) → Every P (cond b (present l S) (s ∷ present l S))
      go true e a = a
      go false e a = (h.0 (eqb-false (l.units s) 0 e), a)

  pub length_add : (S T : List A) → length (add l S T) ≤ length (present l S) + length T
  unfolding add
  length_add S T = length_insert_all l.order (plus l) (present l S) T

  pub length_add_all : (S T : List A) → length (add l S T) ≤ length S + length T
  length_add_all S T = omega (arith, length_add S T, length_present S)

  pub every_add : (P : A → Type 0) → ((t s : A) → P t → P (plus l t s)) → (S T : List A)
      → Every (λ s. l.units s ≢ 0 → P s) S → Every P T → Every P (add l S T)
  unfolding add
  every_add P lasts S T h a = every_insert_all l.order (plus l) P lasts (present l S) T (every_present P S h) a

  -- one list after the other
  pub add_append : (S S' T : List A) → add l (S ++ S') T ≡ add l S' (add l S T)
  unfolding add insert_all
  add_append S S' T = ap (λ (X : List A). insert_all l.order (plus l) X T) (present_append S S') ∙ all_append (present l S) (present l S') T
    where
      present_append : (S S' : List A) → present l (S ++ S') ≡ present l S ++ present l S'
      present_append [] S' = refl
      present_append (s ∷ S) S' = go (eqb (l.units s) 0) (present_append S S')
        where
          go : (b : Bool) → present l (S ++ S') ≡ present l S ++ present l S'
              → cond b (present l (S ++ S')) (s ∷ present l (S ++ S')) ≡ cond b (present l S) (s ∷ present l S) ++ present l S'
          go true h = h
          go false h = ap (s ∷◌) h

      all_append : (X Y T : List A) → insert_all l.order (plus l) (X ++ Y) T ≡ insert_all l.order (plus l) Y (insert_all l.order (plus l) X T)
      all_append [] Y T = refl
      all_append (x ∷ X) Y T = all_append X Y (insert l.order (plus l) x T)

  -- ---- what a listing is

  -- a state with u units has u, and stands where it stood; what stands past the end has none; the order is one
  pub record Lawful : Type 0 where
    pub counts : (s : A) (u : ℕ) → l.units (l.having s u) ≡ u
    pub empty : l.units l.none ≡ 0
    pub onward : (s t u : A) → l.order s t ≡ before → l.order t u ≡ before → l.order s u ≡ before
    pub turned : (s t : A) → l.order s t ≡ after → l.order t s ≡ before
    pub left : (s : A) (u : ℕ) (t : A) → l.order (l.having s u) t ≡ l.order s t
    pub right : (t s : A) (u : ℕ) → l.order t (l.having s u) ≡ l.order t s

  -- ---- worth

  abbrev pub worth_of : (A → ℕ) → A → ℕ
  worth_of f s = l.units s * f s

  abbrev pub worth : (A → ℕ) → List A → ℕ
  worth f T = sum_over (worth_of f) T

  -- a weight does not look at units, and is the same for states in the same place
  pub record Weight (f : A → ℕ) : Type 0 where
    pub blind : (s : A) (u : ℕ) → f (l.having s u) ≡ f s
    pub alike : (s t : A) → l.order s t ≡ same → f s ≡ f t

  -- the weight 1 gives the total
  abbrev pub one : A → ℕ
  one s = 1

  pub one_weight : Weight one
  one_weight = record { blind = λ s u. refl; alike = λ s t e. refl }

  pub worth_total : (T : List A) → worth one T ≡ total l T
  unfolding total
  worth_total [] = refl
  worth_total (s ∷ T) = omega (arith, worth_total T)

  worth_present : (f : A → ℕ) (S : List A) → worth f (present l S) ≡ worth f S
  worth_present f [] = refl
  worth_present f (s ∷ S) = go (eqb (l.units s) 0) refl (worth_present f S)
    where
      go : (b : Bool) → eqb (l.units s) 0 ≡ b → worth f (present l S) ≡ worth f S
          → worth f (cond b (present l S) (s ∷ present l S)) ≡ worth_of f s + worth f S
      go true e h = rw (eqb-true (l.units s) 0 e) (omega arith)
      go false e h = ap (worth_of f s +◌) h

  total_present : (S : List A) → total l (present l S) ≡ total l S
  total_present S = sym (worth_total (present l S)) ∙ worth_present one S ∙ worth_total S

  module _ (laws : Lawful) where
    pub sorts : Sorts l.order (plus l)
    sorts = record { onward = laws.onward; turned = laws.turned; placed_left = λ t s u. laws.left t _ u; placed_right = λ u t s. laws.right u t _ }

    pub rising_add : (S T : List A) → InOrder l.order T → InOrder l.order (add l S T)
    unfolding add
    rising_add S T h = in_order_insert_all l.order (plus l) sorts (present l S) T h

    -- where there are no more units than WHOLE, no sum stops
    pub worth_add : (f : A → ℕ) → Weight f → (S T : List A) → total l S + total l T ≤ whole → worth f (add l S T) ≡ worth f S + worth f T
    unfolding add total
    worth_add f weight S T h =
        sum_insert_all l.order (plus l) l.units whole (worth_of f) adds sum (present l S) T (omega (arith, total_present S))
        ∙ ap (◌+ worth f T) (worth_present f S)
      where
        sum : (s t : A) → l.order s t ≡ same → l.units t + l.units s ≤ whole → l.units (plus l t s) ≡ l.units t + l.units s
        sum s t e h = laws.counts t _ ∙ more_adds (l.units t) (l.units s) h

        adds : (s t : A) → l.order s t ≡ same → l.units t + l.units s ≤ whole → worth_of f (plus l t s) ≡ worth_of f t + worth_of f s
        adds s t e h = rw (sum s t e h, weight.blind t (more (l.units t) (l.units s)), weight.alike s t e) (omega arith)

    pub total_add : (S T : List A) → total l S + total l T ≤ whole → total l (add l S T) ≡ total l S + total l T
    total_add S T h = sym (worth_total (add l S T)) ∙ worth_add one one_weight S T h ∙ ap₂ ◌+◌ (worth_total S) (worth_total T)

    -- a state taken out; one that is not there has no units
    pub worth_remove : (f : A → ℕ) (i : ℕ) (T : List A) → worth_of f (at l T i) + worth f (remove i T) ≡ worth f T
    unfolding remove
    worth_remove f i [] = rw laws.empty (omega arith)
    worth_remove f zero (t ∷ T) = refl
    worth_remove f (suc i) (t ∷ T) = omega (arith, worth_remove f i T)

    -- ---- shape

    -- adding does not break it, where P does not look at units
    pub shaped_plus : (P : A → Type 0) → ((s : A) (u : ℕ) → P s → P (l.having s u)) → (t s : A) → Present l P t → Present l P (plus l t s)
    shaped_plus P kept t s h = (kept t _ h.0, rw (laws.counts t (more (l.units t) (l.units s))) (more_least (l.units t) (l.units s) h.1))
