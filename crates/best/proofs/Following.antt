-- The states that follow a state: how much room they need, and that the parts that are put in one after the other are all of them. What is the same for every kind of state is in
-- tables/proofs/Following.
use mathlib.Core.Path.{◌≡◌, refl, sym, ap, ◌∙◌, subst}
use mathlib.Core.Bool.{Bool, true, false, cond, not, true≢false}
use mathlib.Core.List.{List, [], ◌∷◌, ◌++◌, map, flat_map}
use Prim.Native.Nat.{ℕ, suc, ◌+◌, ◌-◌, ◌*◌, ◌/◌, ◌%◌, ◌≤◌, ◌<◌}
use native.Mathlib.Nat.{le_trans, le_of_eq, lt_of_le_of_lt, add-le-add, mul-le-mul, div-le_self, div-add-mod}
use native.Mathlib.Decide.{dec_lt}
use native.Mathlib.Omega.{arith}
use lib.Dec.{lit<, eqb}
use lib.ListN.{length, take, length-map}
use lib.Seq.{append_snoc}
use mir.Syntax.{w64}
use mir.Val.{Fits}
use borrow.Author.Tests.{eq-eqb, ne_eqb}
use Rattle.rules.specs.declared.Target.{Target}
use Rattle.rules.specs.declared.BestState.{BestState}
use Rattle.rules.specs.Units.{whole}
use Rattle.rules.specs.Contents.{has, shared, held, size, without}
use Rattle.rules.specs.Best.{listing, open_state, hit, missed}
use Rattle.rules.specs.Shape.{Every}
use Rattle.rules.proofs.Lists.{every_take, every_at, every_weaker}
use Rattle.rules.proofs.Contents.{size_zero, size_sub, sub_shared_left}
use Rattle.tables.proofs.Following.{added_then, added_length}
use Rattle.best.specs.Tables.{misses_of, hits_of, units_of, present, no_state, state_at, miss, successors}
use Rattle.best.specs.Placing.{Added}
use Rattle.best.specs.Following.{Workable}
use Rattle.best.proofs.Laws.{length_present, length_present_append, length_access}

-- ---- a miss

-- with what is left over where that goes to them
pub shares_more_fit : (d q u N y p : ℕ) (b : Bool) → d ≤ 16 → q ≡ u / N → u ≤ whole → p ≡ u % N → y ≡ cond b p 0 → Fits w64 (d * q + y)
shares_more_fit d q u N y p b l e h f g =
    record { fits = lt_of_le_of_lt (add-le-add (mul-le-mul l (le_trans (le_of_eq e) (le_trans (div-le_self u N) h))) (le_trans few h)) (lit< tt) }
  where
    most : (b : Bool) → cond b p 0 ≤ u
    most true = omega (arith, f, div-add-mod u N)
    most false = omega arith

    few : y ≤ u
    few = le_trans (le_of_eq g) (most b)

module _ (x : Target) (s : BestState) (E N q : ℕ) where
  -- where a way loses a block
  abbrev lost_all : List BestState
  lost_all = map (λ e. missed x s (without s.mask e) q) (held E)

  module _ (n : ℕ) (T : List BestState) (room : n ≤ length T) where
    -- where every way of the set holds a block, no units are kept
    pub kept_count : (m z y r₀ C : ℕ) (t : BestState) (T₁ T₂ : List BestState) (r : ℕ) → size E ≤ N → N ≤ 16 → z ≡ size E → y ≡ cond (eqb z 0) r₀ 0
        → t ≡ missed x s C ((N - z) * q + y) → Added lost_all n m T T₁ → Added (t ∷ []) m r T₁ T₂ → r ≤ n + 16
    unfolding size
    kept_count m z y r₀ C t T₁ T₂ r small few e d p a b =
        omega (
          arith,
          added_length listing (lost_all ++ (t ∷ [])) n r T T₂ (added_then listing lost_all n m T T₁ a (t ∷ []) r T₂ b) room,
          length_present_append lost_all (t ∷ []),
          length_present lost_all,
          length-map (held E) (λ e. missed x s (without s.mask e) q),
          last (dec_lt (size E) 16),
        )
      where
        gone : (d w : ℕ) → d ≡ 0 → w ≡ 0 → units_of t ≡ d * q + w → eqb (units_of t) 0 ≡ true
        gone d w h k v = eq-eqb (units_of t) 0 (v ∙ rw (h, k) (omega arith))

        nothing : 16 ≤ size E → y ≡ 0
        nothing l = d ∙ rw (ne_eqb z 0 (λ h. omega arith))

        last : Dec (size E < 16) → length (held E) + length (present (t ∷ [])) ≤ 16
        last (yes l) = omega (arith, length_present (t ∷ []))
        last (no l) = rw (gone (N - z) y (omega arith) (nothing (omega arith)) (ap units_of p)) (omega arith)

-- the two parts of what is left over: y where no block can be lost, and v otherwise
pub miss_put : (N : ℕ) (x : Target) (s : BestState) (E q n m₁ m₂ r : ℕ) (T T₁ T₂ T₃ : List BestState) (p z y v : ℕ) (t₁ t₂ : BestState)
    → E ≡ shared s.mask x.mates → q ≡ units_of s / N → p ≡ units_of s % N → z ≡ size E → y ≡ cond (eqb z 0) p 0 → v ≡ cond (not (eqb z 0)) p 0
    → t₁ ≡ missed x s s.mask ((N - z) * q + y) → t₂ ≡ open_state (suc (misses_of s)) (hits_of s) v
    → Added (lost_all x s E N q) n m₁ T T₁ → Added (t₁ ∷ []) m₁ m₂ T₁ T₂ → Added (t₂ ∷ []) m₂ r T₂ T₃ → Added (miss N x s) n r T T₃
unfolding miss
miss_put N x s E q n m₁ m₂ r T T₁ T₂ T₃ p z y v t₁ t₂ ee eq ep ez ey ev e₁ e₂ a b c =
    subst (λ (S : List BestState). Added S n r T T₃) is
    (added_then listing (lost_all x s E N q ++ (t₁ ∷ [])) n m₂ T T₂ (added_then listing (lost_all x s E N q) n m₁ T T₁ a (t₁ ∷ []) m₂ T₂ b) (t₂ ∷ []) r T₃ c)
  where
    turn : (c : Bool) (u : ℕ) → cond (not c) u 0 ≡ cond c 0 u
    turn true u = refl
    turn false u = refl

    is : lost_all x s E N q ++ (t₁ ∷ []) ++ (t₂ ∷ []) ≡ miss N x s
    is = append_snoc (lost_all x s E N q) t₁ (t₂ ∷ []) ∙ rw (e₁, e₂, ey, ev ∙ turn (eqb z 0) p, ez, ep, eq, ee)

-- ---- an open state, a hit or a miss

module _ (N : ℕ) (x : Target) (s : BestState) where
  follows_open : s.exact ≡ false → successors N x s ≡ s ∷ []
  unfolding successors
  follows_open e = go s.exact e
    where
      go : (a : Bool) → a ≡ false → cond a (cond (has s.mask false x.place) (hit s ∷ []) (miss N x s)) (s ∷ []) ≡ s ∷ []
      go true h = absurd (true≢false h)
      go false h = refl

  follows_exact : s.exact ≡ true → (b : Bool) → has s.mask false x.place ≡ b → successors N x s ≡ cond b (hit s ∷ []) (miss N x s)
  unfolding successors
  follows_exact e b q = go s.exact e
    where
      go : (a : Bool) → a ≡ true → cond a (cond (has s.mask false x.place) (hit s ∷ []) (miss N x s)) (s ∷ []) ≡ cond b (hit s ∷ []) (miss N x s)
      go true h = ap (λ (c : Bool). cond c (hit s ∷ []) (miss N x s)) q
      go false h = absurd (true≢false (sym h))

  module _ (n r : ℕ) (T T' : List BestState) where
    pub open_put : s.exact ≡ false → Added (s ∷ []) n r T T' → Added (successors N x s) n r T T'
    open_put e a = rw (follows_open e) a

    pub hit_put : s.exact ≡ true → has s.mask false x.place ≡ true → (t : BestState) → t ≡ hit s → Added (t ∷ []) n r T T'
        → Added (successors N x s) n r T T'
    hit_put exact h t e a = rw (follows_exact exact true h, ← e) a

    pub miss_goes : s.exact ≡ true → has s.mask false x.place ≡ false → Added (miss N x s) n r T T' → Added (successors N x s) n r T T'
    miss_goes exact h a = rw (follows_exact exact false h) a

-- ---- the states that follow those of a table

module _ (N : ℕ) (x : Target) (S : List BestState) where
  -- each is followed by few
  pub follows_few : (i : ℕ) → Every (Workable N x) S → 0 < N → length (present (flat_map (successors N x) (take i S))) ≤ length (take i S) * suc N
  follows_few i h some =
      length_access N x (take i S) some
      (every_take (λ s. size (shared s.mask x.mates) ≤ N) i S (every_weaker (Workable N x) (λ s. size (shared s.mask x.mates) ≤ N) (λ s p. p.3) S h))

pub workable_at : (N : ℕ) (x : Target) (S : List BestState) → Every (Workable N x) S → (i : ℕ) → Workable N x (state_at S i)
workable_at N x S h i =
    every_at (Workable N x) no_state (omega arith, omega arith, omega arith, omega (arith, size_sub _ 0 (sub_shared_left 0 x.mates), size_zero)) i S h
