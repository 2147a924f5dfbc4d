-- What an access makes of a state: what is set aside of it; and that what is so of any arguments is what the documents say, where these are in range.
use Rattle.std.proofs.Common.{◌≡◌, ℕ, suc, ◌+◌, ◌%◌, ◌^◌, ◌<◌, ◌≤◌, Bool, true, false, cond, not, eqb, sym, refl, ap, ◌∙◌, ap₂, arith, eq-eqb, ne_eqb, eqb-true}
use Rattle.basics.proofs.Bools.{and_left, and_right}
use Rattle.rules.specs.declared.Filled.{Filled}
use Rattle.rules.specs.declared.State.{State}
use Rattle.rules.specs.declared.Target.{Target}
use Rattle.rules.specs.Contents.{hits, with, Place}
use Rattle.rules.specs.Shape.{Listed}
use Rattle.rules.specs.Step.{at_risk, left_over}
use Rattle.rules.specs.Table.{state, units_of}
use Rattle.tables.proofs.Masks.{in_word_lem}
use Rattle.states.specs.Step.{in_reach, fuller, fuller_in, missed_from, missed_in, fills, goes_on}
use Rattle.states.proofs.Numbers.{filled_so}

-- ---- what is set aside

module _ (N : ℕ) (x : Target) (s : State) where
  pub over_none : hits x s.mask ≡ true → 0 ≡ left_over N x s
  unfolding left_over
  over_none h = rw h

  module _ (h : hits x s.mask ≡ false) (E : ℕ) (risk : E ≡ at_risk N x s.filled s.mask) where
    pub over_safe : E ≡ 0 → 0 ≡ left_over N x s
    unfolding left_over
    over_safe z = rw (h, ← risk, eq-eqb E 0 z)

    pub over_rest : (E ≡ 0 → ⊥) → (p : ℕ) → p ≡ units_of s % N → p ≡ left_over N x s
    unfolding left_over
    over_rest n p e = rw (h, ← risk, ne_eqb E 0 n) e

-- ---- a run goes on

module _ (N : ℕ) (x : Target) (C : ℕ) (f : Bool) (s : State) where
  pub other_mask : (s.mask ≡ C → ⊥) → false ≡ goes_on N x C f s
  other_mask n = rw (ne_eqb s.mask C n)

  pub same_mask : s.mask ≡ C → (r b : Bool) → r ≡ fills N x s → r ≡ b → cond b f (not f) ≡ goes_on N x C f s
  same_mask e r b p q = rw (eq-eqb s.mask C e, ← p, q)

-- ---- what the documents say, where the arguments are in range

module _ (x : Target) (listed : Listed 16 x.place) (near : x.set < 16) where
  pub reach_is : in_reach x ≡ x
  reach_is =
      let e : x.set % 16 ≡ x.set = omega arith in
      ap₂ (λ (p : Place) (j : ℕ). record { place = p; again = x.again; set = j; mates = x.mates }) (in_word_lem x.place listed) e

  pub risk_so : (N E : ℕ) (s : State) → E ≡ at_risk N (in_reach x) s.filled s.mask → E ≡ at_risk N x s.filled s.mask
  risk_so N E s e = e ∙ ap (λ (y : Target). at_risk N y s.filled s.mask) reach_is

  pub over_so : (N p : ℕ) (s : State) → p ≡ left_over N (in_reach x) s → p ≡ left_over N x s
  over_so N p s e = e ∙ ap (λ (y : Target). left_over N y s) reach_is

  pub fuller_so : (N : ℕ) → N ≤ 16 → (s t : State) → t ≡ fuller_in N (in_reach x) s → t ≡ fuller N x s
  fuller_so N few s t e =
      e ∙ ap (λ (y : Target). fuller_in N y s) reach_is
      ∙ ap (λ (F : Filled). state s.mask s.misses F (units_of s)) (filled_so N x.set s.filled few)

-- a place is all that a miss asks of the target, and a count that can be one more
pub missed_so : (x : Target) → Listed 16 x.place → (s t : State) → s.misses ≤ 4095 → (C u : ℕ) → t ≡ missed_in (in_reach x) s C u → t ≡ missed_from x s C u
missed_so x listed s t few C u e =
    let n : (s.misses + 1) % 2 ^ 64 ≡ suc s.misses = omega arith in
    e ∙ ap₂ (λ (p : Place) (m : ℕ). state (with C p) m s.filled u) (in_word_lem x.place listed) n

-- and a set is all that is asked of it by what fills a way
module _ (x : Target) (near : x.set < 16) (N : ℕ) (s : State) where
  pub fills_so : fills N (in_reach x) s ≡ fills N x s
  fills_so =
      let e : x.set % 16 ≡ x.set = omega arith in
      ap (λ (j : ℕ). fills N (record { place = x.place; again = x.again; set = j; mates = x.mates }) s) e

  -- a state that goes on has the mask, and fills an empty way as the run does
  pub goes_so : (C : ℕ) (f r : Bool) → r ≡ goes_on N (in_reach x) C f s → r ≡ true → (s.mask ≡ C) × (fills N x s ≡ f)
  goes_so C f r e h =
      (eqb-true s.mask C (and_left (eqb s.mask C) _ (sym e ∙ h)), sym fills_so ∙ go (fills N (in_reach x) s) f (and_right (eqb s.mask C) _ (sym e ∙ h)))
    where
      go : (b f : Bool) → cond b f (not f) ≡ true → b ≡ f
      go true true h = refl
      go true false h = sym h
      go false true h = h
      go false false h = refl
