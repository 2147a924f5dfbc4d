-- What comes of a run in one stream. All its states come to the same contents. Where they are split, what comes of them are their shares: the parts of so many ways, none of them more than
-- the state had; and the shares stand as the states of the run do.
use mathlib.Core.Path.{◌≡◌, refl, sym, ap, ap₂, ◌∙◌, subst}
use mathlib.Core.Logic.{◌≢◌}
use mathlib.Core.Bool.{Bool, true, false, cond, true≢false}
use mathlib.Core.List.{List, [], ◌∷◌, map}
use Prim.Native.Nat.{ℕ, suc, ◌-◌, ◌*◌, ◌/◌, ◌^◌, ◌≤◌, ◌<◌}
use native.Mathlib.Nat.{div-add-mod, div-le_self, mul-le-mul_left, le_trans, le_of_eq, sub-le}
use native.Mathlib.Decide.{dec_lt, ℕ_discrete}
use native.Mathlib.Omega.{arith}
use lib.Dec.{eqb, ltb}
use lib.ListN.{length}
use borrow.Author.Tests.{lt-ltb, le-ltb, eq-eqb, ne_eqb}
use Rattle.rules.specs.declared.Target.{Target}
use Rattle.rules.specs.declared.State.{State}
use Rattle.rules.specs.Contents.{bit, hits, with, without, shared, size, Place}
use Rattle.rules.specs.Ordered.{Order, before, by_number, by_two, then_by, is_before}
use Rattle.rules.specs.Shape.{Every, Listed}
use Rattle.rules.specs.Table.{state, units_of, order, rising, add}
use Rattle.rules.specs.Units.{whole}
use Rattle.rules.proofs.Bits.{bit_zero, bits_same}
use Rattle.rules.proofs.Contents.{with_keeps, sub_with_has, with_lt}
use Rattle.rules.proofs.Lists.{every_weaker}
use Rattle.rules.proofs.Ordered.{number_cases, number_before, number_same}
use Rattle.rules.proofs.Table.{Rising, rising_is, rising_so}
use Rattle.heads.specs.Head.{contents_at}
use Rattle.heads.proofs.Reading.{contents_with}
use Rattle.estimate.specs.Following.{Placed, Workable}
use Rattle.estimate.specs.Merging.{part, comes, fills}
use Rattle.estimate.specs.Going.{times_of, Goes}
use Rattle.estimate.specs.Sharing.{share, sharing, CanLose}
use Rattle.estimate.proofs.StreamParts.{hit_comes, keep_comes, lose_comes, part_hits, part_fills, part_loses, part_keeps, kept_share, risk_size}

-- ---- the contents

module _ (C : ℕ) (p : Place) (k : ℕ) where
  contents_lost : k < 16 → contents_at C (with 0 p) k ≡ with (without C k) p
  contents_lost l = contents_with C p k ∙ rw (lt-ltb k 16 l) refl

  contents_kept : 16 ≤ k → contents_at C (with 0 p) k ≡ with C p
  contents_kept l = contents_with C p k ∙ rw (le-ltb k 16 l) refl

-- a block that is held adds nothing
with_held : (x : Target) (C : ℕ) → Listed 16 x.place → C < 2 ^ 16 → hits x C ≡ true → with C x.place ≡ C
with_held x C p l h = bits_same 16 (with C x.place) C (with_lt 16 C x.place l p) l (λ i m. same (bit (with C x.place) i) (bit C i) (sub_with_has C C x.again x.place (λ j e. e) h i) (with_keeps C x.place i))
  where
    same : (a b : Bool) → (a ≡ true → b ≡ true) → (b ≡ true → a ≡ true) → a ≡ b
    same true b f g = sym (f refl)
    same false true f g = g refl
    same false false f g = refl

-- ---- the ways

-- all is split in a stream that loses
pub whole_stream : (N E k : ℕ) → times_of N E k ≡ 0 → 16 ≤ k
unfolding times_of
whole_stream N E k e = go (dec_lt k 16)
  where
    none : k < 16 → ◌≡◌ {A = ℕ} 1 0
    none l = subst (λ (b : Bool). cond b 1 (cond (ltb 16 k) 0 (cond (eqb E 0) 0 (N - size E))) ≡ 0) (lt-ltb k 16 l) e

    go : Dec (k < 16) → 16 ≤ k
    go (yes l) = absurd (omega (arith, none l))
    go (no n) = omega arith

-- ---- one state

module _ (N : ℕ) (x : Target) (few : N ≤ 16) (placed : Placed x) (k C D : ℕ) (to : D ≡ contents_at C (with 0 x.place) k) (s : State)
    (e : comes (hits x s.mask) (fills N x s) (shared s.mask x.mates) k ≡ true) (own : s.mask ≡ C) where
  -- it comes to these contents
  pub part_contents : s.mask < 2 ^ 16 → (part N x k s).mask ≡ D
  part_contents small = go (dec_lt k 16) (dec_lt 17 k)
    where
      kept : 16 ≤ k → k ≤ 17 → (part N x k s).mask ≡ with s.mask x.place
      kept l m = go (ℕ_discrete k 16)
        where
          go : Dec (k ≡ 16) → (part N x k s).mask ≡ with s.mask x.place
          go (yes q) = ap (λ (t : State). t.mask) (sym (part_keeps N x k s e _ few placed.1 q (shared s.mask x.mates) _ refl refl refl))
          go (no n) = ap (λ (t : State). t.mask) (sym (part_fills N x k s e _ (omega arith) _ _ refl refl refl))

      go : Dec (k < 16) → Dec (17 < k) → (part N x k s).mask ≡ D
      go (yes l) b =
          ap (λ (t : State). t.mask) (sym (part_loses N x k s e _ few placed.1 l (without s.mask k) (units_of s / N) refl refl refl))
          ∙ ap (λ (E : ℕ). with (without E k) x.place) own ∙ sym (to ∙ contents_lost C x.place k l)
      go (no a) (yes l) =
          ap (λ (t : State). t.mask) (sym (part_hits N x k s e l)) ∙ own
          ∙ sym (to ∙ contents_kept C x.place k (omega arith) ∙ with_held x C placed.0 (subst (λ (E : ℕ). E < 2 ^ 16) own small) (ap (hits x) (sym own) ∙ hit_comes _ _ _ k e l))
      go (no a) (no b) = kept (omega arith) (omega arith) ∙ ap (λ (E : ℕ). with E x.place) own ∙ sym (to ∙ contents_kept C x.place k (omega arith))

  module _ (t : ℕ) (times : t ≡ times_of N (shared C x.mates) k) (some : t ≢ 0) where
    -- it is split in a stream that loses, or that keeps where something can be lost
    loses : k < 16 → t ≡ 1
    unfolding times_of
    loses l = times ∙ rw (lt-ltb k 16 l) refl

    keeps : 16 ≤ k → (k ≡ 16) × (shared C x.mates ≢ 0) × (t ≡ N - size (shared C x.mates))
    unfolding times_of
    keeps l = go (dec_lt 16 k) (ℕ_discrete (shared C x.mates) 0)
      where
        go : Dec (16 < k) → Dec (shared C x.mates ≡ 0) → (k ≡ 16) × (shared C x.mates ≢ 0) × (t ≡ N - size (shared C x.mates))
        go (yes m) b = absurd (some (times ∙ rw (le-ltb k 16 l, lt-ltb 16 k m) refl))
        go (no a) (yes z) = absurd (some (times ∙ rw (le-ltb k 16 l, le-ltb 16 k (omega arith), eq-eqb (shared C x.mates) 0 z) refl))
        go (no a) (no n) = (omega arith, n, times ∙ rw (le-ltb k 16 l, le-ltb 16 k (omega arith), ne_eqb (shared C x.mates) 0 n) refl)

    pub splits : CanLose N x s
    splits = go (dec_lt k 16)
      where
        go : Dec (k < 16) → CanLose N x s
        go (yes l) = let (a, b, c) = lose_comes _ _ _ k e l in (a, b, λ z. true≢false (sym c ∙ ap (λ (E : ℕ). bit E k) z ∙ bit_zero k))
        go (no n) = let (a, b) = keep_comes _ _ _ k e (keeps (omega arith)).0 in (a, b, λ z. (keeps (omega arith)).1 (ap (λ (E : ℕ). shared E x.mates) (sym own) ∙ z))

    -- and what comes of it is its share
    pub part_share : part N x k s ≡ share D t s (units_of s / N)
    unfolding share
    part_share = go (dec_lt k 16)
      where
        go : Dec (k < 16) → part N x k s ≡ state D (suc s.misses) s.filled (units_of s / N * t)
        go (yes l) =
            sym (part_loses N x k s e (state D (suc s.misses) s.filled (units_of s / N * t)) few placed.1 l (without s.mask k) (units_of s / N) refl refl
            (ap₂ (λ (E u : ℕ). state E (suc s.misses) s.filled u) (to ∙ contents_lost C x.place k l ∙ ap (λ (E : ℕ). with (without E k) x.place) (sym own)) (omega (arith, ap (λ (z : ℕ). units_of s / N * z) (loses l)))))
        go (no n) = let (q, some, many) = keeps (omega arith) in
            sym (part_keeps N x k s e (state D (suc s.misses) s.filled (units_of s / N * t)) few placed.1 q (shared C x.mates) (t * (units_of s / N)) (ap (λ (E : ℕ). shared E x.mates) (sym own))
            (ap (λ (z : ℕ). z * (units_of s / N)) many ∙ kept_share N (shared C x.mates) (units_of s) _ _ some refl refl)
            (ap₂ (λ (E u : ℕ). state E (suc s.misses) s.filled u) (to ∙ contents_kept C x.place k (omega arith) ∙ ap (λ (E : ℕ). with E x.place) (sym own)) (omega arith)))

    -- which is no more than it had
    pub share_most : units_of s / N * t ≤ units_of s
    share_most = go (dec_lt k 16)
      where
        go : Dec (k < 16) → units_of s / N * t ≤ units_of s
        go (yes l) = subst (λ (z : ℕ). units_of s / N * z ≤ units_of s) (sym (loses l)) (omega (arith, div-le_self (units_of s) N))
        go (no n) = omega (arith, div-add-mod (units_of s) N, mul-le-mul_left (units_of s / N) (le_trans (le_of_eq (keeps (omega arith)).2) (sub-le N _)))

-- ---- shares stand as their states do

before_shared : (D t : ℕ) (s u : State) (p q : ℕ) → s.mask ≡ u.mask → order s u ≡ before → order (share D t s p) (share D t u q) ≡ before
unfolding order share
before_shared D t s u p q e h =
    rw (number_same D D refl) (number_cases s.misses u.misses (λ o. then_by o F ≡ before → then_by (by_number (suc s.misses) (suc u.misses)) F ≡ before)
    (λ l q. rw (number_before (suc s.misses) (suc u.misses) (omega (arith, l))) refl)
    (λ m q. rw (number_same (suc s.misses) (suc u.misses) (ap suc m)) q)
    (λ l q. absurd (true≢false (sym (ap is_before q))))
    (subst (λ (o : Order). then_by (then_by o (by_number s.misses u.misses)) F ≡ before) (number_same s.mask u.mask e) h))
  where
    F : Order
    F = by_two (λ s. s.filled.front) (λ s. s.filled.back) s u

shared_rising : (C D t : ℕ) (R : List State) (Q : List ℕ) → Every (λ s. s.mask ≡ C) R → Rising R → Rising (sharing D t R Q)
unfolding sharing
shared_rising C D t [] Q a h = tt
shared_rising C D t (s ∷ R) [] a h = tt
shared_rising C D t (s ∷ R) (q ∷ Q) a h = (behind R Q a.1 h.0, shared_rising C D t R Q a.1 h.1)
  where
    behind : (R : List State) (Q : List ℕ) → Every (λ u. u.mask ≡ C) R → Every (λ u. order s u ≡ before) R → Every (λ u. order (share D t s q) u ≡ before) (sharing D t R Q)
    behind [] Q b h = tt
    behind (u ∷ R) [] b h = tt
    behind (u ∷ R) (p ∷ Q) b h = (before_shared D t s u q p (a.0 ∙ sym b.0) h.0, behind R Q b.1 h.1)

-- ---- the run

module _ (N : ℕ) (x : Target) (few : N ≤ 16) (placed : Placed x) (k C D : ℕ) where
  abbrev Coming : State → Type 0
  Coming s = comes (hits x s.mask) (fills N x s) (shared s.mask x.mates) k ≡ true

  module _ (to : D ≡ contents_at C (with 0 x.place) k) (t : ℕ) (times : t ≡ times_of N (shared C x.mates) k) (some : t ≢ 0) where
    all_split : (R : List State) → Every Coming R → Every (λ s. s.mask ≡ C) R → Every (CanLose N x) R
    all_split [] e a = tt
    all_split (s ∷ R) e a = (splits N x few placed k C D to s e.0 a.0 t times some, all_split R e.1 a.1)

    all_shares : (R : List State) → Every Coming R → Every (λ s. s.mask ≡ C) R → map (part N x k) R ≡ sharing D t R (map (λ s. units_of s / N) R)
    unfolding sharing
    all_shares [] e a = refl
    all_shares (s ∷ R) e a = ap₂ (λ (u : State) (U : List State). u ∷ U) (part_share N x few placed k C D to s e.0 a.0 t times some) (all_shares R e.1 a.1)

    all_fit_lem : (R : List State) → Every (Workable N x) R → Every Coming R → Every (λ s. s.mask ≡ C) R → Every (λ q. q * t ≤ whole) (map (λ s. units_of s / N) R)
    all_fit_lem [] w e a = tt
    all_fit_lem (s ∷ R) w e a = (le_trans (share_most N x few placed k C D to s e.0 a.0 t times some) w.0.1, all_fit_lem R w.1 e.1 a.1)

  module _ (R : List State) (Q : List ℕ) (g : Goes N x k C D R Q) where
    -- its states come to these contents
    pub run_contents : Every (λ s. (part N x k s).mask ≡ D) R
    run_contents = go R g.coming g.alike g.workable
      where
        go : (R : List State) → Every Coming R → Every (λ s. s.mask ≡ C) R → Every (Workable N x) R → Every (λ s. (part N x k s).mask ≡ D) R
        go [] e a w = tt
        go (s ∷ R) e a w = (part_contents N x few placed k C D g.contents s e.0 a.0 w.0.3, go R e.1 a.1 w.1)

    module _ (t : ℕ) (times : t ≡ times_of N (shared C x.mates) k) (some : t ≢ 0) where
      parts : Q ≡ map (λ s. units_of s / N) R
      parts = g.split (all_split g.contents t times some R g.coming g.alike)

      -- and where they are split what comes of them are their shares
      pub run_shares : map (part N x k) R ≡ sharing D t R Q
      run_shares = all_shares g.contents t times some R g.coming g.alike ∙ ap (sharing D t R) (sym parts)

      -- they can be put to a table that has room for what comes: they rise, come from few enough misses, and are no more than WHOLE
      pub shares_ready : (X : List State) (b : ℕ) → length (add (map (part N x k) R) X) ≤ b
          → (length (add (sharing D t R Q) X) ≤ b) × (rising (sharing D t R Q) ≡ true) × Every (λ s. s.misses ≤ 4095) R × Every (λ q. q * t ≤ whole) Q
      shares_ready X b l = (
        subst (λ (U : List State). length (add U X) ≤ b) run_shares l,
        rising_is (sharing D t R Q) (shared_rising C D t R Q g.alike (rising_so R g.rises)),
        every_weaker (Workable N x) (λ s. s.misses ≤ 4095) (λ s w. w.0) R g.workable,
        subst (λ (P : List ℕ). Every (λ q. q * t ≤ whole) P) (sym parts) (all_fit_lem g.contents t times some R g.workable g.coming g.alike),
      )

    -- there are no more blocks to lose than ways
    pub lose_room : 1 ≤ length R → k ≡ 16 → size (shared C x.mates) ≤ N
    lose_room l q = go R l g.coming g.alike g.workable
      where
        go : (R : List State) → 1 ≤ length R → Every Coming R → Every (λ s. s.mask ≡ C) R → Every (Workable N x) R → size (shared C x.mates) ≤ N
        go [] l e a w = absurd (omega arith)
        go (s ∷ R) l e a w = subst (λ (E : ℕ). size (shared E x.mates) ≤ N) a.0 (risk_size N x k s (keep_comes _ _ _ k e.0 q).1 w.0.2)
