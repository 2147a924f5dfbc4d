-- The states that follow a state: how much room they need, and that the parts that are put in one after the other are all of them. What is the same for every kind of state is in
-- tables/proofs/Following.
use mathlib.Core.Path.{◌≡◌, sym, ap, ap₂, ◌∙◌, subst}
use mathlib.Core.Bool.{true, false}
use mathlib.Core.List.{List, [], ◌∷◌, ◌++◌, map, flat_map}
use Prim.Native.Nat.{ℕ, suc, ◌+◌, ◌-◌, ◌*◌, ◌/◌, ◌%◌, ◌≤◌, ◌<◌}
use native.Mathlib.Decide.{dec_lt}
use native.Mathlib.Omega.{arith}
use lib.Dec.{eqb}
use lib.ListN.{length, take, length-map}
use lib.Seq.{append_snoc, take_all}
use borrow.Author.Tests.{eq-eqb}
use Rattle.rules.specs.declared.Target.{Target}
use Rattle.rules.specs.declared.State.{State}
use Rattle.basics.specs.Sums.{sum_over}
use Rattle.basics.proofs.Sums.{sum_append}
use Rattle.rules.specs.Units.{whole, more}
use Rattle.rules.specs.Contents.{hits, held, size, without}
use Rattle.rules.specs.Table.{listing, units_of, present, no_state, state_at}
use Rattle.rules.specs.Step.{at_risk, rest_of, miss, successors, left_over, access_aside}
use Rattle.rules.specs.Shape.{Every}
use Rattle.rules.proofs.Splitting.{more_adds, more_more}
use Rattle.rules.proofs.Lists.{every_take, every_at, every_weaker}
use Rattle.rules.proofs.Contents.{size_zero, size_sub}
use Rattle.rules.proofs.Sets.{risk_sub}
use Rattle.rules.proofs.Step.{length_access}
use Rattle.rules.proofs.Table.{length_present, length_present_append}
use Rattle.tables.proofs.Following.{added_then, added_length, take_next}
use Rattle.estimate.specs.Placing.{Added}
use Rattle.estimate.specs.Following.{fuller, missed_from, Workable}

-- ---- a miss

module _ (x : Target) (s : State) (E N q : ℕ) where
  -- where a way loses a block
  abbrev lost_all : List State
  lost_all = map (λ e. missed_from x s (without s.mask e) q) (held E)

  module _ (n : ℕ) (T : List State) (room : n ≤ length T) where
    -- where every way of the set holds a block, no units are kept
    pub kept_count : (m z C : ℕ) (t : State) (T₁ T₂ : List State) (r : ℕ) → size E ≤ N → z ≡ size E → t ≡ missed_from x s C ((N - z) * q)
        → Added lost_all n m T T₁ → Added (t ∷ []) m r T₁ T₂ → r ≤ n + N
    unfolding size
    kept_count m z C t T₁ T₂ r small e p a b =
        omega (
          arith,
          added_length listing (lost_all ++ (t ∷ [])) n r T T₂ (added_then listing lost_all n m T T₁ a (t ∷ []) r T₂ b) room,
          length_present_append lost_all (t ∷ []),
          length_present lost_all,
          length-map (held E) (λ e. missed_from x s (without s.mask e) q),
          last (dec_lt (size E) N),
        )
      where
        gone : (d : ℕ) → d ≡ 0 → units_of t ≡ d * q → eqb (units_of t) 0 ≡ true
        gone d w v = eq-eqb (units_of t) 0 (v ∙ rw w (omega arith))

        last : Dec (size E < N) → length (held E) + length (present (t ∷ [])) ≤ N
        last (yes l) = omega (arith, length_present (t ∷ []))
        last (no l) = rw (gone (N - z) (omega arith) (ap units_of p)) (omega arith)

-- s itself, and as it is with the filled numbers after the miss
pub miss_put : (N : ℕ) (x : Target) (s t : State) (E q n m₁ m₂ r : ℕ) (T T₁ T₂ T₃ : List State) (p z D : ℕ) (t₁ t₂ : State) → E ≡ at_risk N x s.filled s.mask → t ≡ fuller N x s
    → q ≡ units_of s / N → p ≡ units_of s % N → z ≡ size E → D ≡ rest_of s.mask E
    → t₁ ≡ missed_from x t s.mask ((N - z) * q) → t₂ ≡ missed_from x t D p
    → Added (lost_all x t E N q) n m₁ T T₁ → Added (t₁ ∷ []) m₁ m₂ T₁ T₂ → Added (t₂ ∷ []) m₂ r T₂ T₃ → Added (miss N x s) n r T T₃
unfolding miss
miss_put N x s t E q n m₁ m₂ r T T₁ T₂ T₃ p z D t₁ t₂ ee et eq ep ez ed e₁ e₂ a b c =
    subst (λ (S : List State). Added S n r T T₃) is
    (added_then listing (lost_all x t E N q ++ (t₁ ∷ [])) n m₂ T T₂ (added_then listing (lost_all x t E N q) n m₁ T T₁ a (t₁ ∷ []) m₂ T₂ b) (t₂ ∷ []) r T₃ c)
  where
    is : lost_all x t E N q ++ (t₁ ∷ []) ++ (t₂ ∷ []) ≡ miss N x s
    is = append_snoc (lost_all x t E N q) t₁ (t₂ ∷ []) ∙ rw (e₁, e₂, ed, ep, ez, eq, et, ee)

-- ---- a hit or a miss

module _ (N : ℕ) (x : Target) (s : State) (n r : ℕ) (T T' : List State) where
  pub hit_put : hits x s.mask ≡ true → Added (s ∷ []) n r T T' → Added (successors N x s) n r T T'
  unfolding successors
  hit_put h a = rw h a

  pub miss_goes : hits x s.mask ≡ false → Added (miss N x s) n r T T' → Added (successors N x s) n r T T'
  unfolding successors
  miss_goes h a = rw h a

-- ---- the states that follow those of a table

module _ (N : ℕ) (x : Target) (S : List State) where
  -- each is followed by few
  pub follows_few : (i : ℕ) → Every (Workable N x) S → length (present (flat_map (successors N x) (take i S))) ≤ length (take i S) * suc N
  follows_few i h =
      length_access N x (take i S)
      (every_take (λ s. size (at_risk N x s.filled s.mask) ≤ N) i S (every_weaker (Workable N x) (λ s. size (at_risk N x s.filled s.mask) ≤ N) (λ s p. p.2) S h))

  -- the set-aside count so far
  abbrev pub aside_to : ℕ → ℕ → ℕ
  aside_to a i = more a (sum_over (left_over N x) (take i S))

  pub aside_start : (a : ℕ) → a ≤ whole → a ≡ aside_to a 0
  aside_start a h = sym (more_adds a 0 (omega arith) ∙ omega arith)

  pub aside_next : (a i : ℕ) (s : State) (b c p : ℕ) → i < length S → s ≡ state_at S i → b ≡ aside_to a i → p ≡ left_over N x s → c ≡ more b p → c ≡ aside_to a (i + 1)
  aside_next a i s b c p l e eb ep ec =
      ec ∙ ap₂ more eb ep ∙ more_more a (sum_over (left_over N x) (take i S)) (left_over N x s)
      ∙ ap (more a) (sum ∙ ap (sum_over (left_over N x)) (take_next listing S i s l e))
    where
      sum : sum_over (left_over N x) (take i S) + left_over N x s ≡ sum_over (left_over N x) (take i S ++ (s ∷ []))
      sum = omega (arith, sum_append (left_over N x) (take i S) (s ∷ []))

  pub aside_all : (a m : ℕ) → length S ≤ m → aside_to a m ≡ more a (access_aside N x S)
  aside_all a m l = ap (λ (U : List State). more a (sum_over (left_over N x) U)) (take_all m S l)

pub workable_at : (N : ℕ) (x : Target) (S : List State) → Every (Workable N x) S → (i : ℕ) → Workable N x (state_at S i)
workable_at N x S h i = every_at (Workable N x) no_state (omega arith, omega arith, omega (arith, size_sub _ 0 (risk_sub N x (record { front = 0; back = 0 }) 0), size_zero), omega arith) i S h
