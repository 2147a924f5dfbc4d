-- Weakening of one state: fewer blocks or the same, at least as many misses, at least the filled numbers; the units stay. To a weight that rises it then weighs no
-- less, and no more than the units that changed make up for. That is all that is asked of a fold, of a join, and of whatever else moves units.
use mathlib.Core.Path.{◌≡◌, refl, sym, ap, ◌∙◌}
use mathlib.Core.Logic.{◌⊎◌, inl, inr, ⊎_elim}
use mathlib.Core.Bool.{Bool, true, false, cond, ◌&&◌}
use mathlib.Core.List.{List}
use Prim.Native.Nat.{ℕ, ◌+◌, ◌*◌, ◌≤◌}
use native.Mathlib.Nat.{le-max_left, le-max_right, mul-le-mul_left}
use native.Mathlib.Omega.{arith}
use lib.Dec.{eqb}
use borrow.Author.Tests.{eqb-true}
use Rattle.rules.specs.declared.State.{State}
use Rattle.rules.specs.Table.{units_of}
use Rattle.rules.specs.Fold.{meet, changed}
use Rattle.rules.specs.Shape.{Room}
use Rattle.rules.proofs.Contents.{Sub, sub_shared_left, sub_shared_right}
use Rattle.rules.proofs.Filling.{Fewer, same_filled_lem, fewer_left, fewer_right}
use Rattle.rules.proofs.Table.{Weight, weight_of, worth_of}
use Rattle.promises.proofs.Value.{Rises}

-- m is s weakened
pub record Weaker (s m : State) : Type 0 where
  pub fewer : Sub m.mask s.mask
  pub later : s.misses ≤ m.misses
  pub fuller : Fewer s.filled m.filled

module _ (N Z : ℕ) (ts : List ℕ) (f : Weight) (rises : Rises N Z ts f) (s m : State) (w : Weaker s m) (room : Room N Z ts s.mask s.filled) where
  pub weaker_weighs : weight_of f s ≤ weight_of f m
  weaker_weighs = rises m.mask s.mask m.misses s.misses m.filled s.filled w.fewer w.later w.fuller room

  -- and so do its units
  pub weaker_low : worth_of f s ≤ units_of s * weight_of f m
  weaker_low = mul-le-mul_left (units_of s) weaker_weighs

-- what two states become in a fold or in a join is each of them weakened
pub meet_left : (s t : State) (u : ℕ) → Weaker s (meet s t u)
meet_left s t u = record { fewer = sub_shared_left s.mask t.mask; later = le-max_left s.misses t.misses; fuller = fewer_left s.filled t.filled }

pub meet_right : (s t : State) (u : ℕ) → Weaker t (meet s t u)
meet_right s t u = record { fewer = sub_shared_right s.mask t.mask; later = le-max_right s.misses t.misses; fuller = fewer_right s.filled t.filled }

-- ---- the units that changed

-- it counts as changed, or it is what it became
changed_cases : (s m : State) → (changed s m ≡ units_of s) ⊎ ((changed s m ≡ 0) × ((f : Weight) → weight_of f m ≡ weight_of f s))
changed_cases s m = go (eqb s.mask m.mask) (eqb s.misses m.misses) (eqb s.filled.front m.filled.front) (eqb s.filled.back m.filled.back) refl refl refl refl
  where
    go : (a b c d : Bool) → eqb s.mask m.mask ≡ a → eqb s.misses m.misses ≡ b
        → eqb s.filled.front m.filled.front ≡ c → eqb s.filled.back m.filled.back ≡ d
        → (cond (a && b && (c && d)) 0 (units_of s) ≡ units_of s) ⊎ ((cond (a && b && (c && d)) 0 (units_of s) ≡ 0) × ((f : Weight) → weight_of f m ≡ weight_of f s))
    go true true true true p q x y =
        inr (
          refl,
          λ f. rw (
            eqb-true s.mask m.mask p,
            eqb-true s.misses m.misses q,
            same_filled_lem s.filled m.filled (eqb-true s.filled.front m.filled.front x, eqb-true s.filled.back m.filled.back y),
          ),
        )
    go true true true false p q x y = inl refl
    go true true false d p q x y = inl refl
    go true false c d p q x y = inl refl
    go false b c d p q x y = inl refl

-- the units of s at m, where those that changed count for at most M
pub changed_high : (f : Weight) (M : ℕ) (s m : State) → weight_of f m ≤ M → units_of s * weight_of f m ≤ worth_of f s + changed s m * M
changed_high f M s m most =
    ⊎_elim (λ e. rw e (omega (arith, mul-le-mul_left (units_of s) most))) (λ (e, same). rw (e, same f) (omega arith)) (changed_cases s m)

pub changed_none : (f : Weight) (s m : State) → changed s m ≡ 0 → units_of s * weight_of f m ≡ worth_of f s
changed_none f s m none = ⊎_elim (λ e. let z : units_of s ≡ 0 = sym e ∙ none in rw z (omega arith)) (λ (e, same). ap (units_of s *◌) (same f)) (changed_cases s m)
