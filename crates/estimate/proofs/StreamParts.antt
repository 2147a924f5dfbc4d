-- What becomes of a state in a stream, as code finds it: where the stream has something of such states, which tells what they are; and nothing where it has not.
use mathlib.Core.Path.{◌≡◌, refl, sym, ap, ap₂, ◌∙◌, subst}
use mathlib.Core.Logic.{◌≢◌}
use mathlib.Core.Bool.{Bool, true, false, cond, true≢false}
use Prim.Native.Nat.{ℕ, suc, ◌-◌, ◌*◌, ◌/◌, ◌≤◌, ◌<◌}
use native.Mathlib.Decide.{dec_lt, ℕ_discrete}
use native.Mathlib.Omega.{arith}
use lib.Dec.{eqb, ltb}
use borrow.Author.Tests.{lt-ltb, le-ltb, ltb-false, eq-eqb, ne_eqb}
use Rattle.rules.specs.declared.Filled.{Filled}
use Rattle.rules.specs.declared.Target.{Target}
use Rattle.rules.specs.declared.State.{State}
use Rattle.rules.specs.Contents.{bit, hits, with, without, shared, size}
use Rattle.rules.specs.Table.{state, units_of}
use Rattle.rules.specs.Step.{at_risk, missed}
use Rattle.rules.proofs.Bits.{bit_zero}
use Rattle.rules.proofs.Filling.{no_more}
use Rattle.estimate.specs.Following.{fuller, missed_from}
use Rattle.estimate.specs.Merging.{losing, kept_of, keeping, filling, hitting, part, comes, fills}

-- ---- what is told of states by the streams that have something of them

module _ (h f : Bool) (E k : ℕ) (e : comes h f E k ≡ true) where
  pub hit_comes : 17 < k → h ≡ true
  unfolding comes
  hit_comes l = go h f e
    where
      go : (h f : Bool) → cond h (ltb 17 k) (cond f (eqb k 17) (cond (ltb k 16) (bit E k) (eqb k 16))) ≡ true → h ≡ true
      go true f e = refl
      go false true e = absurd (true≢false (sym e ∙ ne_eqb k 17 (λ q. absurd (omega arith))))
      go false false e = absurd (true≢false (sym e ∙ rw (le-ltb k 16 (omega arith)) (ne_eqb k 16 (λ q. absurd (omega arith)))))

  pub fill_comes : k ≡ 17 → (h ≡ false) × (f ≡ true)
  unfolding comes
  fill_comes q = go h f e
    where
      go : (h f : Bool) → cond h (ltb 17 k) (cond f (eqb k 17) (cond (ltb k 16) (bit E k) (eqb k 16))) ≡ true → (h ≡ false) × (f ≡ true)
      go true f e = absurd (true≢false (sym e ∙ le-ltb 17 k (omega arith)))
      go false true e = (refl, refl)
      go false false e = absurd (true≢false (sym e ∙ rw (le-ltb k 16 (omega arith)) (ne_eqb k 16 (λ p. absurd (omega arith)))))

  pub keep_comes : k ≡ 16 → (h ≡ false) × (f ≡ false)
  unfolding comes
  keep_comes q = go h f e
    where
      go : (h f : Bool) → cond h (ltb 17 k) (cond f (eqb k 17) (cond (ltb k 16) (bit E k) (eqb k 16))) ≡ true → (h ≡ false) × (f ≡ false)
      go true f e = absurd (true≢false (sym e ∙ le-ltb 17 k (omega arith)))
      go false true e = absurd (true≢false (sym e ∙ ne_eqb k 17 (λ p. absurd (omega arith))))
      go false false e = (refl, refl)

  pub lose_comes : k < 16 → (h ≡ false) × (f ≡ false) × (bit E k ≡ true)
  unfolding comes
  lose_comes l = go h f e
    where
      go : (h f : Bool) → cond h (ltb 17 k) (cond f (eqb k 17) (cond (ltb k 16) (bit E k) (eqb k 16))) ≡ true → (h ≡ false) × (f ≡ false) × (bit E k ≡ true)
      go true f e = absurd (true≢false (sym e ∙ le-ltb 17 k (omega arith)))
      go false true e = absurd (true≢false (sym e ∙ ne_eqb k 17 (λ p. absurd (omega arith))))
      go false false e = (refl, refl, sym (ap (λ (b : Bool). cond b (bit E k) (eqb k 16)) (lt-ltb k 16 l)) ∙ e)

-- ---- by the number of the stream

module _ (N : ℕ) (x : Target) (k : ℕ) (s : State) where
  is_hitting : 17 < k → part N x k s ≡ hitting x s
  unfolding part
  is_hitting l = rw (le-ltb k 16 (omega arith), ne_eqb k 16 (λ e. absurd (omega arith)), ne_eqb k 17 (λ e. absurd (omega arith)))

  is_filling : k ≡ 17 → part N x k s ≡ filling N x s
  unfolding part
  is_filling e = rw (le-ltb k 16 (omega arith), ne_eqb k 16 (λ f. absurd (omega arith)), eq-eqb k 17 e)

  is_keeping : k ≡ 16 → part N x k s ≡ keeping N x s
  unfolding part
  is_keeping e = rw (le-ltb k 16 (omega arith), eq-eqb k 16 e)

  is_losing : k < 16 → part N x k s ≡ losing N x k s
  unfolding part
  is_losing l = rw (lt-ltb k 16 l)

  -- where every way may be filled, what can be lost is what is held of the set
  pub all_risk : fills N x s ≡ false → at_risk N x s.filled s.mask ≡ shared s.mask x.mates
  unfolding at_risk
  all_risk f = rw f

  pub risk_size : fills N x s ≡ false → size (at_risk N x s.filled s.mask) ≤ N → size (shared s.mask x.mates) ≤ N
  risk_size f l = subst (λ (E : ℕ). size E ≤ N) (all_risk f) l

  -- what of s comes in stream k, where something of such states does
  module _ (e : comes (hits x s.mask) (fills N x s) (shared s.mask x.mates) k ≡ true) where
    pub part_hits : 17 < k → s ≡ part N x k s
    unfolding hitting
    part_hits l = sym (is_hitting l ∙ rw (hit_comes _ _ _ k e l))

    module _ (r : State) where
      pub part_fills : k ≡ 17 → (t : State) (u : ℕ) → t ≡ fuller N x s → u ≡ units_of s → r ≡ missed_from x t s.mask u → r ≡ part N x k s
      unfolding filling
      part_fills q t u d p h =
          let (a, b) = fill_comes _ _ _ k e q in
          h ∙ ap₂ (λ (t : State) (u : ℕ). missed_from x t s.mask u) d p ∙ sym (is_filling q ∙ rw (a, b))

      -- a set whose ways may all be filled has no more of them
      module _ (few : N ≤ 16) (near : x.set < 16) where
        same_filled_lem : fills N x s ≡ false → (C u : ℕ) → missed_from x s C u ≡ missed N x s C u
        same_filled_lem f C u = ap (λ (F : Filled). state (with C x.place) (suc s.misses) F u) (sym (no_more N few x.set near s.filled (ltb-false _ N f)))

        pub part_keeps : k ≡ 16 → (D u : ℕ) → D ≡ shared s.mask x.mates → u ≡ kept_of N D (units_of s) → r ≡ missed_from x s s.mask u → r ≡ part N x k s
        unfolding keeping
        part_keeps q D u d p h =
            let (a, b) = keep_comes _ _ _ k e q in
            h ∙ ap (λ (u : ℕ). missed_from x s s.mask u) (p ∙ ap (λ (D : ℕ). kept_of N D (units_of s)) (d ∙ sym (all_risk b))) ∙ same_filled_lem b s.mask _ ∙ sym (is_keeping q ∙ rw (a, b))

        pub part_loses : k < 16 → (D u : ℕ) → D ≡ without s.mask k → u ≡ units_of s / N → r ≡ missed_from x s D u → r ≡ part N x k s
        unfolding losing
        part_loses l D u d p h =
            let (a, b, c) = lose_comes _ _ _ k e l in
            h ∙ ap₂ (λ (D u : ℕ). missed_from x s D u) d p ∙ same_filled_lem b (without s.mask k) _ ∙ sym (is_losing l ∙ rw (a, ap (λ (D : ℕ). bit D k) (all_risk b) ∙ c))

  -- and nothing, where nothing does
  module _ (e : comes (hits x s.mask) (fills N x s) (shared s.mask x.mates) k ≡ false) where
    told : (h f : Bool) → hits x s.mask ≡ h → fills N x s ≡ f → comes h f (shared s.mask x.mates) k ≡ false
    told h f p q = rw (← p, ← q) e

    pub nothing_comes : units_of (part N x k s) ≡ 0
    unfolding losing keeping filling hitting comes at_risk
    nothing_comes = go (dec_lt k 16) (ℕ_discrete k 16) (ℕ_discrete k 17)
      where
        loses : k < 16 → (h f : Bool) → hits x s.mask ≡ h → fills N x s ≡ f → units_of (losing N x k s) ≡ 0
        loses l true f p q = rw p
        loses l false true p q = rw (p, q, bit_zero k)
        loses l false false p q = rw (p, q, sym (ap (λ (b : Bool). cond b (bit (shared s.mask x.mates) k) (eqb k 16)) (lt-ltb k 16 l)) ∙ told false false p q)

        keeps : k ≡ 16 → (h f : Bool) → hits x s.mask ≡ h → fills N x s ≡ f → units_of (keeping N x s) ≡ 0
        keeps l true f p q = rw p
        keeps l false true p q = rw (p, q)
        keeps l false false p q = absurd (true≢false (sym (rw (le-ltb k 16 (omega arith)) (eq-eqb k 16 l)) ∙ told false false p q))

        fills_none : k ≡ 17 → (h f : Bool) → hits x s.mask ≡ h → fills N x s ≡ f → units_of (filling N x s) ≡ 0
        fills_none l true f p q = rw p
        fills_none l false false p q = rw (p, q)
        fills_none l false true p q = absurd (true≢false (sym (eq-eqb k 17 l) ∙ told false true p q))

        hit_none : 17 < k → (h : Bool) → hits x s.mask ≡ h → units_of (hitting x s) ≡ 0
        hit_none l false p = rw p
        hit_none l true p = absurd (true≢false (sym (lt-ltb 17 k l) ∙ told true (fills N x s) p refl))

        go : Dec (k < 16) → Dec (k ≡ 16) → Dec (k ≡ 17) → units_of (part N x k s) ≡ 0
        go (yes l) b c = ap units_of (is_losing l) ∙ loses l (hits x s.mask) (fills N x s) refl refl
        go (no a) (yes l) c = ap units_of (is_keeping l) ∙ keeps l (hits x s.mask) (fills N x s) refl refl
        go (no a) (no b) (yes l) = ap units_of (is_filling l) ∙ fills_none l (hits x s.mask) (fills N x s) refl refl
        go (no a) (no b) (no c) = ap units_of (is_hitting (omega arith)) ∙ hit_none (omega arith) (hits x s.mask) refl

-- ---- the units that lose nothing

pub kept_none : (N E u : ℕ) → E ≡ 0 → u ≡ kept_of N E u
kept_none N E u z = rw (eq-eqb E 0 z)

pub kept_share : (N E u z q : ℕ) → E ≢ 0 → z ≡ size E → q ≡ u / N → (N - z) * q ≡ kept_of N E u
kept_share N E u z q n e p = rw (ne_eqb E 0 n, e, p)
