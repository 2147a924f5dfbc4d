-- A join is worth no less than either table. Units are paired one pair after the other, no more than are left of either state, so that what a table was worth is what its
-- pairs are and what is left of it; each pair gives both its states weakened; and what is left is lost, which counts for at least as much. How the pairs are chosen, and
-- in which order, does not matter to this.
use Rattle.std.specs.Prelude.{None}
use mathlib.Core.Path.{◌≡◌, refl, ap, ◌∙◌}
use mathlib.Core.Logic.{◌≢◌}
use mathlib.Core.List.{List, [], ◌∷◌, map}
use Prim.Native.Nat.{ℕ, zero, suc, ◌+◌, ◌-◌, ◌*◌, ◌≤◌, min}
use native.Mathlib.Nat.{le_refl, le_trans, min-le_left, min-le_right, mul-le-mul_left}
use native.Mathlib.Omega.{arith}
use Rattle.basics.specs.Sums.{sum_over}
use Rattle.rules.specs.declared.State.{State}
use Rattle.rules.specs.declared.Filled.{Filled}
use Rattle.rules.specs.Units.{whole}
use Rattle.rules.specs.Contents.{places}
use Rattle.rules.specs.AnyTable.{Match, total as total_of, paired as paired_of}
use Rattle.rules.specs.Table.{units_of, listing, total, state_at}
use Rattle.rules.specs.Join.{matched, paired}
use Rattle.rules.specs.Shape.{Every, Room, Loose, Shaped}
use Rattle.rules.proofs.Lists.{every_weaker}
use Rattle.rules.proofs.Listings.{shaped_plus}
use Rattle.rules.proofs.Table.{states_lawful, Weight, weight_of, worth, one, worth_total, worth_add, total_add, every_add}
use Rattle.rules.proofs.Step.{others}
use Rattle.rules.proofs.Fold.{loose_meet, loose_at}
use Rattle.promises.proofs.Weaker.{weaker_weighs, meet_left, meet_right}
use Rattle.tight_rules.specs.Rows.{Rows}
use Rattle.tight_rules.specs.Reduction.{reduced}
use Rattle.tight_rules.specs.Join.{Two, in_turn, spend, pair_up, pairing, filled_of, join}
use Rattle.tight_rules.proofs.Moves.{Fit, worth_of_all, Good, Sure, sure_reduced, filled_of_most, filled_up_fit}

-- ---- units that are used

module _ (f : Weight) where
  spend_worth : (i u : ℕ) (T : List State) → u ≤ units_of (state_at T i) → u * weight_of f (state_at T i) + worth f (spend i u T) ≡ worth f T
  unfolding spend
  spend_worth i u [] l = let z : u ≡ 0 = omega arith in rw z (omega arith)
  spend_worth zero u (s ∷ T) l =
      let (r, e, d) = others (units_of s) u l in
      rw d (omega (arith, ap (λ (n : ℕ). n * weight_of f s) e))
  spend_worth (suc i) u (s ∷ T) l = omega (arith, spend_worth i u T l)

  -- nothing else changes
  spend_weighs : (i u : ℕ) (T : List State) (j : ℕ) → weight_of f (state_at (spend i u T) j) ≡ weight_of f (state_at T j)
  unfolding spend
  spend_weighs i u [] j = refl
  spend_weighs zero u (s ∷ T) zero = refl
  spend_weighs zero u (s ∷ T) (suc j) = refl
  spend_weighs (suc i) u (s ∷ T) zero = refl
  spend_weighs (suc i) u (s ∷ T) (suc j) = spend_weighs i u T j

spend_loose : (N Z : ℕ) (ts : List ℕ) (M i u : ℕ) (T : List State) → Every (Loose N Z ts M) T → Every (Loose N Z ts M) (spend i u T)
unfolding spend
spend_loose N Z ts M i u [] h = tt
spend_loose N Z ts M zero u (s ∷ T) h = (record { masked = h.0.masked; few = h.0.few; small = h.0.small }, h.1)
spend_loose N Z ts M (suc i) u (s ∷ T) h = (h.0, spend_loose N Z ts M i u T h.1)

-- the units of all pairs
abbrev amount : List Match → ℕ
amount P = sum_over (λ p. p.units) P

module _ (side : Match → ℕ) where
  -- what is left of a table when all pairs have taken theirs
  abbrev spent : List Match → List State → List State
  spent [] T = T
  spent (p ∷ P) T = spent P (spend (side p) p.units T)

  -- each pair takes no more than is left
  abbrev pub Fits : List Match → List State → Type 0
  Fits [] T = Unit {0}
  Fits (p ∷ P) T = (p.units ≤ units_of (state_at T (side p))) × Fits P (spend (side p) p.units T)

  spent_loose : (N Z : ℕ) (ts : List ℕ) (M : ℕ) (P : List Match) (T : List State) → Every (Loose N Z ts M) T → Every (Loose N Z ts M) (spent P T)
  spent_loose N Z ts M [] T h = h
  spent_loose N Z ts M (p ∷ P) T h = spent_loose N Z ts M P (spend (side p) p.units T) (spend_loose N Z ts M (side p) p.units T h)

  -- S is the table at first, T what is left of it
  used_worth : (f : Weight) (S : List State) (P : List Match) (T : List State) → ((j : ℕ) → weight_of f (state_at T j) ≡ weight_of f (state_at S j)) → Fits P T
      → sum_over (λ p. p.units * weight_of f (state_at S (side p))) P + worth f (spent P T) ≡ worth f T
  used_worth f S [] T same fits = omega arith
  used_worth f S (p ∷ P) T same fits =
      omega (
        arith,
        used_worth f S P (spend (side p) p.units T) (λ j. spend_weighs f (side p) p.units T j ∙ same j) fits.1,
        spend_worth f (side p) p.units T fits.0,
        ap (p.units *◌) (same (side p)),
      )

  used_total : (P : List Match) (T : List State) → Fits P T → amount P + total (spent P T) ≡ total T
  used_total P T fits =
      omega (arith, used_worth one T P T (λ j. refl) fits, worth_total (spent P T), worth_total T, ones P)
    where
      ones : (P : List Match) → sum_over (λ p. p.units * 1) P ≡ amount P
      ones [] = refl
      ones (p ∷ P) = omega (arith, ones P)

  -- what is left counts for at most B
  used_low : (N Z : ℕ) (ts : List ℕ) (M : ℕ) (f : Weight) (B : ℕ) → ((C m : ℕ) (F : Filled) → Room N Z ts C F → f C m F ≤ B)
      → (P : List Match) (T : List State) → Every (Loose N Z ts M) T → Fits P T
      → worth f T ≤ sum_over (λ p. p.units * weight_of f (state_at T (side p))) P + total (spent P T) * B
  unfolding total_of
  used_low N Z ts M f B most P T loose fits =
      omega (arith, used_worth f T P T (λ j. refl) fits, at_most (spent P T) (spent_loose N Z ts M P T loose))
    where
      at_most : (T : List State) → Every (Loose N Z ts M) T → worth f T ≤ total T * B
      at_most [] h = omega arith
      at_most (s ∷ T) h = omega (arith, mul-le-mul_left (units_of s) (most s.mask s.misses s.filled h.0.small), at_most T h.1)

-- ---- the pairs that are made

pair_fits : (cs : List Two) (S T : List State) → Fits (λ p. p.left) (pair_up cs S T) S × Fits (λ p. p.right) (pair_up cs S T) T
unfolding pair_up
pair_fits [] S T = (tt, tt)
pair_fits (c ∷ cs) S T =
    let u = min (units_of (state_at S c.left)) (units_of (state_at T c.right)) in
    let (l, r) = pair_fits cs (spend c.left u S) (spend c.right u T) in
    ((min-le_left _ _, l), (min-le_right _ _, r))

module _ (P : List Match) (S T : List State) where
  total_matched : total (map (matched S T) P) ≡ amount P
  unfolding total_of
  total_matched = each P
    where
      each : (P : List Match) → total (map (matched S T) P) ≡ amount P
      each [] = refl
      each (p ∷ P) = omega (arith, each P)

  module _ (full : amount P ≤ whole) where
    room_to_add : total (map (matched S T) P) + total [] ≤ whole
    unfolding total_of
    room_to_add = omega (arith, total_matched)

    paired_total : total (paired P S T) ≡ amount P
    unfolding paired_of total_of
    paired_total = total_add (map (matched S T) P) [] room_to_add ∙ omega (arith, total_matched)

    paired_worth : (f : Weight) → worth f (paired P S T) ≡ sum_over (λ p. p.units * weight_of f (matched S T p)) P
    unfolding paired_of
    paired_worth f = worth_add f (map (matched S T) P) [] room_to_add ∙ omega (arith, each P)
      where
        each : (P : List Match) → worth f (map (matched S T) P) ≡ sum_over (λ p. p.units * weight_of f (matched S T p)) P
        each [] = refl
        each (p ∷ P) = omega (arith, each P)

  module _ (N Z : ℕ) (ts : List ℕ) (M : ℕ) (a : Every (Shaped N Z ts M) S) (b : Every (Shaped N Z ts M) T) where
    paired_shaped : Every (Shaped N Z ts M) (paired P S T)
    unfolding paired_of
    paired_shaped =
        every_add (Shaped N Z ts M) (shaped_plus listing states_lawful (Loose N Z ts M) (λ s u l. record { masked = l.masked; few = l.few; small = l.small }))
        (map (matched S T) P) [] (each P) tt
      where
        positive : (n : ℕ) → n ≢ 0 → 1 ≤ n
        positive zero h = absurd (h refl)
        positive (suc n) h = omega arith

        each : (P : List Match) → Every (λ s. units_of s ≢ 0 → Shaped N Z ts M s) (map (matched S T) P)
        each [] = tt
        each (p ∷ P) = (
          λ n. (loose_meet N Z ts M (state_at S p.left) (state_at T p.right) p.units (loose_at N Z ts M p.left S a) (loose_at N Z ts M p.right T b), positive p.units n),
          each P,
        )

    -- each pair weighs no less than the state on one side of it
    side_low : (f : Weight) (side : Match → ℕ) (U : List State) → ((p : Match) → weight_of f (state_at U (side p)) ≤ weight_of f (matched S T p))
        → sum_over (λ p. p.units * weight_of f (state_at U (side p))) P ≤ sum_over (λ p. p.units * weight_of f (matched S T p)) P
    side_low f side U above = each P
      where
        each : (P : List Match) → sum_over (λ p. p.units * weight_of f (state_at U (side p))) P ≤ sum_over (λ p. p.units * weight_of f (matched S T p)) P
        each [] = le_refl 0
        each (p ∷ P) = omega (arith, mul-le-mul_left p.units (above p), each P)

-- ---- the join

module _ (N Z : ℕ) (ts : List ℕ) (M : ℕ) (K k a : ℕ) (q r : Rows) (left : Fit N Z ts M q) (right : Fit N Z ts M r) where
  abbrev S : List State
  S = q.kept.table

  abbrev T : List State
  T = r.kept.table

  abbrev P : List Match
  P = pairing S T

  fits : Fits (λ p. p.left) P S × Fits (λ p. p.right) P T
  unfolding pairing
  fits = pair_fits (in_turn places S T) S T

  loose : (T : List State) → Every (Shaped N Z ts M) T → Every (Loose N Z ts M) T
  loose T h = every_weaker (Shaped N Z ts M) (Loose N Z ts M) (λ s p. p.0) T h

  -- before it is reduced
  abbrev pub mid : Rows
  mid =
      record {
        kept = record { table = paired P S T; aside = a };
        lost = q.lost + (total S - sum_over (λ p. p.units) P);
      }

  full : sum_over (λ p. p.units) P ≤ whole
  full = omega (arith, used_total (λ p. p.left) P S fits.0, left.full)

  -- both tables have as much left, with what was lost
  rest : (d : ℕ) × (total S - sum_over (λ p. p.units) P ≡ d) × (total (spent (λ p. p.left) P S) ≡ d) × (total (spent (λ p. p.right) P T) + r.lost ≡ q.lost + d)
  rest = (
    total S - sum_over (λ p. p.units) P,
    refl,
    omega (arith, used_total (λ p. p.left) P S fits.0),
    omega (arith, used_total (λ p. p.left) P S fits.0, used_total (λ p. p.right) P T fits.1, left.full, right.full),
  )

  pub mid_fit : Fit N Z ts M mid
  mid_fit =
      let (d, e, x, y) = rest in
      record {
        shaped = paired_shaped P S T N Z ts M left.shaped right.shaped;
        full = omega (arith, paired_total P S T full, e, x, used_total (λ p. p.left) P S fits.0, left.full);
      }

  module _ (f : Weight) (B : ℕ) (good : Good N Z ts f B) where
    mid_low : (worth_of_all f B q ≤ worth_of_all f B mid) × (worth_of_all f B r ≤ worth_of_all f B mid)
    mid_low =
        let (d, e, x, y) = rest in
        rw (paired_worth P S T full f, e) (
          omega (
            arith,
            used_low (λ p. p.left) N Z ts M f B good.most P S (loose S left.shaped) fits.0,
            side_low P S T N Z ts M left.shaped right.shaped f (λ p. p.left) S
                (λ p. weaker_weighs N Z ts f good.rises (state_at S p.left) (matched S T p) (meet_left (state_at S p.left) (state_at T p.right) p.units) (loose_at N Z ts M p.left S left.shaped).small),
            ap (λ (n : ℕ). n * B) x,
          ),
          omega (
            arith,
            used_low (λ p. p.right) N Z ts M f B good.most P T (loose T right.shaped) fits.1,
            side_low P S T N Z ts M left.shaped right.shaped f (λ p. p.right) T
                (λ p. weaker_weighs N Z ts f good.rises (state_at T p.right) (matched S T p) (meet_right (state_at S p.left) (state_at T p.right) p.units) (loose_at N Z ts M p.right T right.shaped).small),
            ap (λ (n : ℕ). n * B) y,
          ),
        )

    -- before the filled numbers
    reduces : Sure N Z ts M f B good 0 mid (record { kept = reduced K k None mid.kept; lost = mid.lost })
    reduces = sure_reduced N Z ts M f B good 0 K k None mid.kept mid.lost mid_fit

    settled : Fit N Z ts M (join K k a q r) × (worth_of_all f B (record { kept = reduced K k None mid.kept; lost = mid.lost }) ≤ worth_of_all f B (join K k a q r))
    unfolding join
    settled = filled_up_fit N Z ts M f B good 0 (filled_of S T) (filled_of_most N Z ts M S T left.shaped right.shaped) (reduced K k None mid.kept) mid.lost reduces.fit

    pub join_fit : Fit N Z ts M (join K k a q r)
    join_fit = settled.0

    pub join_low : (worth_of_all f B q ≤ worth_of_all f B (join K k a q r)) × (worth_of_all f B r ≤ worth_of_all f B (join K k a q r))
    join_low = (le_trans mid_low.0 (le_trans reduces.low settled.1), le_trans mid_low.1 (le_trans reduces.low settled.1))
