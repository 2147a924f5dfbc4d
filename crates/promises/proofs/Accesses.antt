-- What an access does to the worth of a table, from the one equation for it: nothing is lost to a weight that rises, since the units
-- that are left over go where they are worth most; no more is added than those units; and where there are none, nothing changes.
use mathlib.Core.Path.{◌≡◌, refl, ap}
use mathlib.Core.Bool.{Bool, true, false, cond, ◌||◌}
use mathlib.Core.List.{List, [], ◌∷◌}
use Prim.Native.Nat.{ℕ, suc, ◌+◌, ◌*◌, ◌%◌, ◌≤◌, ◌<◌}
use native.Mathlib.Nat.{mul-le-mul_left}
use native.Mathlib.Omega.{arith}
use lib.Dec.{eqb}
use Rattle.basics.specs.Sums.{sum_over}
use Rattle.rules.specs.declared.Target.{Target}
use Rattle.rules.specs.declared.State.{State}
use Rattle.rules.specs.Contents.{hits, with}
use Rattle.rules.specs.declared.Filled.{Filled}
use Rattle.rules.specs.Filling.{fill_one}
use Rattle.rules.specs.Table.{units_of, total}
use Rattle.rules.specs.Units.{whole}
use Rattle.rules.specs.Step.{at_risk, left_over, access, access_aside}
use Rattle.rules.specs.Shape.{Every, Aimed, Room, Shaped}
use Rattle.rules.proofs.Table.{Weight, worth}
use Rattle.rules.proofs.Step.{over_ways, ahead, ahead_of, alone, worth_access}
use Rattle.rules.proofs.Sets.{room_alone}
use Rattle.rules.proofs.Run.{fits_shaped}
use Rattle.promises.proofs.Value.{Rises, alone_most}

module _ (N Z : ℕ) (ts : List ℕ) (M : ℕ) (x : Target) (aim : Aimed Z ts x) (some : 0 < N) (few : N ≤ 16) (T : List State) (shaped : Every (Shaped N Z ts M) T)
    (full : total T ≤ whole) (f : Weight) where
  -- the one equation
  equation : N * worth f (access N x T) + sum_over (λ s. left_over N x s * ahead_of N x f s) T
      ≡ worth (ahead N x f) T + N * sum_over (λ s. left_over N x s * alone N x f s) T
  equation = worth_access N x some T (fits_shaped N Z ts M T shaped few x aim) full f

  pub access_low : Rises N Z ts f → worth (ahead N x f) T ≤ N * worth f (access N x T)
  unfolding left_over
  access_low rises = omega (arith, equation, all T shaped)
    where
      one : (s : State) → Shaped N Z ts M s → left_over N x s * ahead_of N x f s ≤ N * (left_over N x s * alone N x f s)
      one s l = go (hits x s.mask) (eqb (at_risk N x s.filled s.mask) 0)
        where
          S : ℕ
          S = over_ways N s.mask (at_risk N x s.filled s.mask) (λ D. f (with D x.place) (suc s.misses) (fill_one N x.set s.filled))

          go : (a z : Bool) → cond (a || z) 0 (units_of s % N) * cond a (N * f s.mask s.misses s.filled) S ≤ N * (cond (a || z) 0 (units_of s % N) * alone N x f s)
          go true z = omega arith
          go false true = omega arith
          go false false = omega (arith, mul-le-mul_left (units_of s % N) (alone_most N Z ts few x aim s.mask s.misses s.filled f rises l.0.small))

      all : (T : List State) → Every (Shaped N Z ts M) T
          → sum_over (λ s. left_over N x s * ahead_of N x f s) T ≤ N * sum_over (λ s. left_over N x s * alone N x f s) T
      all [] h = omega arith
      all (s ∷ T) h = omega (arith, all T h.1, one s h.0)

  pub access_high : (B : ℕ) → ((C m : ℕ) (F : Filled) → Room N Z ts C F → f C m F ≤ B)
      → N * worth f (access N x T) ≤ worth (ahead N x f) T + N * (access_aside N x T * B)
  access_high B most = omega (arith, equation, mul-le-mul_left N (all T shaped))
    where
      all : (T : List State) → Every (Shaped N Z ts M) T → sum_over (λ s. left_over N x s * alone N x f s) T ≤ sum_over (left_over N x) T * B
      all [] h = omega arith
      all (s ∷ T) h =
          omega (
            arith,
            all T h.1,
            mul-le-mul_left (left_over N x s)
                (most (with 0 x.place) (suc s.misses) (fill_one N x.set s.filled)
                (room_alone N Z ts few x aim some s.mask s.filled h.0.0.small)),
          )

  pub access_even : access_aside N x T ≡ 0 → N * worth f (access N x T) ≡ worth (ahead N x f) T
  access_even e = omega (arith, equation, none (ahead_of N x f) T e, ap (N *◌) (none (alone N x f) T e))
    where
      none : (g : State → ℕ) (T : List State) → sum_over (left_over N x) T ≡ 0 → sum_over (λ s. left_over N x s * g s) T ≡ 0
      none g [] e = refl
      none g (s ∷ T) e =
          let z : left_over N x s ≡ 0 = omega arith in
          rw z (omega (arith, none g T (omega arith)))
