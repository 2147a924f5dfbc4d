-- A reduction ends with at most K contents. At level 49 every contents is light, so the walk down empties each that has a place to lose, as long as more than K remain; what it
-- empties goes further down. Where it comes to the end, no contents have a place to lose but that of the block held back, which all of them hold: they are one.
use Rattle.std.specs.Prelude.{None, Some}
use mathlib.Core.Path.{◌≡◌, refl, sym, ap, ◌∙◌}
use mathlib.Core.Logic.{◌≢◌, ◌⊎◌, inl, inr, ⊎_elim}
use mathlib.Core.Bool.{Bool, true, false, cond, ◌&&◌, not, true≢false}
use mathlib.Core.List.{List, [], ◌∷◌, map}
use Prim.Native.Nat.{ℕ, zero, suc, ◌+◌, ◌-◌, ◌/◌, ◌%◌, ◌^◌, ◌≤◌, ◌<◌, zero-le}
use native.Mathlib.Nat.{le_refl, le_trans, eq-or-lt_of_le, le_of_suc-le-suc, not-suc-le-zero}
use native.Mathlib.Omega.{arith}
use lib.Dec.{eqb, ltb}
use lib.ListN.{length}
use lib.Pow.{pow_pos}
use borrow.Author.Tests.{eqb-true, eqb-false, eq-eqb, ltb-false, lt-ltb}
use Rattle.basics.proofs.Bools.{and_left, three, same_test}
use Rattle.basics.proofs.Sums.{part_most}
use Rattle.rules.specs.declared.State.{State}
use Rattle.rules.specs.AnyTable.{total as total_of}
use Rattle.rules.specs.Contents.{places, among, bit, without, Place}
use Rattle.rules.specs.Table.{units_of, total, Work}
use Rattle.rules.specs.Shape.{Every, Shaped}
use Rattle.rules.proofs.Bits.{bit_low, bit_rest, bit_zero, bits_same}
use Rattle.rules.proofs.Lists.{every_map, every_weaker}
use Rattle.rules.proofs.Contents.{Sub, without_gone, sixteen_places}
use Rattle.rules.proofs.Table.{every_add}
use Rattle.tight_rules.specs.Rows.{contents, listed, units_in, move, moved}
use Rattle.tight_rules.specs.Reduction.{is_at, lowered, lands, relabel, Reducing, emptied, crowded, light, level, levels, reduced}
use Rattle.tight_rules.proofs.Moves.{Fit, Good, sure_moved, relabel_weakens}
use Rattle.tight_rules.proofs.Parts.{Part, lowered_part, lands_part, level_keeps, reduced_keeps}

-- ---- masks by number

-- what is part of C is no larger than C
pub sub_le : (k D C : ℕ) → D < 2 ^ k → C < 2 ^ k → Sub D C → D ≤ C
sub_le zero D C hd hc s = omega arith
sub_le (suc k) D C hd hc s =
    let r : D / 2 ≤ C / 2 = sub_le k (D / 2) (C / 2) (omega arith) (omega arith) (λ i h. sym (bit_rest C i) ∙ s (suc i) (bit_rest D i ∙ h)) in
    let l : D % 2 ≤ C % 2 = low (D % 2) (C % 2) (omega arith) (λ h. sym (bit_low C) ∙ s 0 (bit_low D ∙ h)) in
    omega arith
  where
    low : (x y : ℕ) → x < 2 → (eqb x 1 ≡ true → eqb y 1 ≡ true) → x ≤ y
    low zero y l h = zero-le
    low (suc zero) y l h = omega (arith, eqb-true y 1 (h (eq-eqb 1 1 refl)))
    low (suc (suc x)) y l h = absurd (omega arith)

-- ---- places to lose

-- contents that stay as they are have no block but the one held back
lowered_stays : (k : ℕ) (y : Place) (C : ℕ) → lowered k y C ≡ C → (i : ℕ) → i < k → bit C i ≡ true → is_at y i ≡ true
unfolding lowered
lowered_stays zero y C e i l h = absurd (not-suc-le-zero l)
lowered_stays (suc k) y C e i l h = go (bit C k && not (is_at y k)) refl e (lowered_stays k y C)
  where
    back : (a b : Bool) → a ≡ true → (a && not b) ≡ false → b ≡ true
    back a true p q = refl
    back a false p q = absurd (true≢false (sym (rw p refl) ∙ q))

    go : (b : Bool) → (bit C k && not (is_at y k)) ≡ b → cond b (without C k) (lowered k y C) ≡ C
        → (lowered k y C ≡ C → (i : ℕ) → i < k → bit C i ≡ true → is_at y i ≡ true) → is_at y i ≡ true
    go true q e ih =
        let t : bit C k ≡ true = and_left (bit C k) (not (is_at y k)) q in
        absurd (true≢false (sym t ∙ ap (λ (D : ℕ). bit D k) (sym e) ∙ without_gone C k t))
    go false q e ih =
        ⊎_elim (λ s. rw s (back (bit C k) (is_at y k) (rw (← s) h) q)) (λ s. ih e i s h) (eq-or-lt_of_le (le_of_suc-le-suc l))

-- contents that are emptied go at least one place down
pub lands_below : (n : ℕ) (y : Place) (gone : List ℕ) (C : ℕ) → 0 < n → among gone C ≡ true → Part y (lands n y gone C) (lowered places y C)
unfolding lands
lands_below zero y gone C l h = absurd (omega arith)
lands_below (suc n) y gone C l h = rw h (lands_part n y gone (lowered places y C))

-- ---- what a move does to masks

pub move_every : (P : ℕ → Type 0) (h : State → State) (T : List State) → Every (λ s. P (h s).mask) T → Every (λ s. P s.mask) (move h T)
unfolding move
move_every P h T all =
    every_add (λ s. P s.mask) (λ t s p. p) (map h T) [] (every_map (λ s. P (h s).mask) (λ s. units_of s ≢ 0 → P s.mask) h (λ s p n. p) T all) tt

-- ---- the units of contents

pub units_most : (C : ℕ) (T : List State) → units_in C T ≤ total T
unfolding units_in total_of
units_most C [] = omega arith
units_most C (s ∷ T) = omega (arith, part_most (eqb s.mask C) (units_of s), units_most C T)

-- contents that are there have units
units_some : (N Z : ℕ) (ts : List ℕ) (M C u : ℕ) (T : List State) → Every (Shaped N Z ts M) T → units_in C T ≤ u → Every (λ s. s.mask ≡ C → 1 ≤ u) T
unfolding units_in
units_some N Z ts M C u [] h l = tt
units_some N Z ts M C u (s ∷ T) h l = (here (eqb s.mask C) refl l, units_some N Z ts M C u T h.1 (omega arith))
  where
    here : (b : Bool) → eqb s.mask C ≡ b → cond b (units_of s) 0 + units_in C T ≤ u → s.mask ≡ C → 1 ≤ u
    here true e l q = omega (arith, h.0.1)
    here false e l q = absurd (eqb-false s.mask C e q)

module _ (N Z : ℕ) (ts : List ℕ) (M K : ℕ) (y : Place) (lost : ℕ) where
  -- in shape, with what is lost
  abbrev Going : Work → Type 0
  Going w = Fit N Z ts M (record { kept = w; lost = lost })

  pub good_none : Good N Z ts (λ C m F. 0) 0
  good_none = record { rises = λ C D m n F G s l h r. le_refl 0; most = λ C m F r. le_refl 0 }

  going_on : (C D : ℕ) (w : Work) → Part y D C → Going w → Going (moved (relabel C D) w)
  going_on C D w p fit = (sure_moved N Z ts M (λ C m F. 0) 0 good_none 0 (relabel C D) (relabel_weakens N Z ts M y C D p) w lost fit).fit

  -- no contents above n have a place to lose
  abbrev Down : ℕ → List State → Type 0
  Down n T = Every (λ s. n < s.mask → lowered places y s.mask ≡ s.mask) T

  down_emptied : (n : ℕ) (r : Reducing) → suc n < 2 ^ length ts → lowered places y (suc n) ≢ suc n → Down (suc n) r.work.table
      → Down n (emptied y (suc n) r).work.table
  unfolding emptied moved
  down_emptied n r l some down =
      move_every (λ m. n < m → lowered places y m ≡ m) (relabel (suc n) D) r.work.table
      (every_weaker (λ s. suc n < s.mask → lowered places y s.mask ≡ s.mask) (λ s. n < (relabel (suc n) D s).mask → lowered places y (relabel (suc n) D s).mask ≡ (relabel (suc n) D s).mask)
      (λ s h. go s h (eqb s.mask (suc n)) refl) r.work.table down)
    where
      D : ℕ
      D = lands places y (suc n ∷ r.gone) (suc n)

      among_first : among (suc n ∷ r.gone) (suc n) ≡ true
      among_first = rw (eq-eqb (suc n) (suc n) refl) refl

      part : Part y D (lowered places y (suc n))
      part = lands_below places y (suc n ∷ r.gone) (suc n) (omega (arith, sixteen_places)) among_first

      low : Part y (lowered places y (suc n)) (suc n)
      low = lowered_part places y (suc n)

      first_short : lowered places y (suc n) < 2 ^ length ts
      first_short = low.short (length ts) l

      least : D ≤ n
      least =
          below (sub_le (length ts) D (lowered places y (suc n)) (part.short (length ts) first_short) first_short part.inside)
          (sub_le (length ts) (lowered places y (suc n)) (suc n) first_short l low.inside)
        where
          below : D ≤ lowered places y (suc n) → lowered places y (suc n) ≤ suc n → D ≤ n
          below a b = ⊎_elim (λ e. absurd (some e)) (λ e. omega (arith, a, e)) (eq-or-lt_of_le b)

      go : (s : State) → (suc n < s.mask → lowered places y s.mask ≡ s.mask) → (b : Bool) → eqb s.mask (suc n) ≡ b
          → n < cond b D s.mask → lowered places y (cond b D s.mask) ≡ cond b D s.mask
      go s h true e k = absurd (omega (arith, least))
      go s h false e k = h (⊎_elim (λ q. absurd (eqb-false s.mask (suc n) e (sym q))) (λ q. q) (eq-or-lt_of_le k))

  -- what is not light has no place to lose: its units are at least 1, and fewer than 2^49
  down_heavy : (n : ℕ) (w : Work) → Going w → light 49 y (suc n) w.table ≡ false → Down (suc n) w.table → Down n w.table
  down_heavy n w fit heavy down = each w.table (units_some N Z ts M (suc n) (units_in (suc n) w.table) w.table fit.shaped (le_refl _)) down
    where
      u : ℕ
      u = units_in (suc n) w.table

      few : u < 2 ^ 49
      few = omega (arith, units_most (suc n) w.table, fit.full)

      stuck : 1 ≤ u → lowered places y (suc n) ≡ suc n
      stuck some = go (eqb (lowered places y (suc n)) (suc n)) refl
        where
          go : (b : Bool) → eqb (lowered places y (suc n)) (suc n) ≡ b → lowered places y (suc n) ≡ suc n
          go true e = eqb-true _ _ e
          go false e = absurd (true≢false (sym (rw (lt-ltb 0 u some, lt-ltb u (2 ^ 49) few, e) refl) ∙ heavy))

      each : (T : List State) → Every (λ s. s.mask ≡ suc n → 1 ≤ u) T → Down (suc n) T → Down n T
      each [] a b = tt
      each (s ∷ T) a b = (
        λ k. ⊎_elim (λ q. rw (← q) (stuck (a.0 (sym q)))) (λ q. b.0 q) (eq-or-lt_of_le k),
        each T a.1 b.1,
      )

  -- ---- one level, and all

  level_idle : (j n : ℕ) (r : Reducing) → crowded K r ≡ false → level K j y n r ≡ r
  unfolding level
  level_idle j zero r e = refl
  level_idle j (suc n) r e = rw e (level_idle j n r e)

  -- it came down to K contents, or all that can lose a place have
  abbrev Done : Reducing → Type 0
  Done r = (crowded K r ≡ false) ⊎ Down 0 r.work.table

  level_done : (n : ℕ) (r : Reducing) → n < 2 ^ length ts → Going r.work → Down n r.work.table → Done (level K 49 y n r)
  unfolding level emptied moved
  level_done zero r l fit down = inr down
  level_done (suc n) r l fit down =
      go (crowded K r) refl (light 49 y (suc n) r.work.table) refl
      (λ s. level_done n s (omega arith))
    where
      go : (a : Bool) → crowded K r ≡ a → (b : Bool) → light 49 y (suc n) r.work.table ≡ b
          → ((s : Reducing) → Going s.work → Down n s.work.table → Done (level K 49 y n s))
          → Done (level K 49 y n (cond (a && b) (emptied y (suc n) r) r))
      go false e b q ih = inl (rw (level_idle 49 n r e) e)
      go true e false q ih = ih r fit (down_heavy n r.work fit q down)
      go true e true q ih =
          let (x, z, t) = three (ltb 0 (units_in (suc n) r.work.table)) (ltb (units_in (suc n) r.work.table) (2 ^ 49)) (not (eqb (lowered places y (suc n)) (suc n))) q in
          ih (emptied y (suc n) r) (level_kept r fit) (down_emptied n r l (λ s. true≢false (sym t ∙ ap not (eq-eqb _ _ s))) down)
        where
          level_kept : (r : Reducing) → Going r.work → Going (emptied y (suc n) r).work
          level_kept r fit = going_on (suc n) _ r.work (lands_part places y (suc n ∷ r.gone) (suc n)) fit

  -- masks of k bits are below 2^k
  from_the_top : (T : List State) → Every (Shaped N Z ts M) T → Down (2 ^ length ts - 1) T
  from_the_top T all = every_weaker (Shaped N Z ts M) (λ s. 2 ^ length ts - 1 < s.mask → lowered places y s.mask ≡ s.mask) (λ s h k. absurd (omega (arith, h.0.masked))) T all

  levels_done : (n : ℕ) (more : Bool) (j : ℕ) (r : Reducing) → crowded K r ≡ more → n + j ≡ 49 → Going r.work → Done (levels K (length ts) y (suc n) more j r)
  levels_done zero false j r e s fit = inl e
  levels_done zero true j r e s fit =
      let z : j ≡ 49 = omega arith in
      rw z (level_done (2 ^ length ts - 1) r (omega (arith, pow_pos (length ts))) fit (from_the_top r.work.table fit.shaped))
  levels_done (suc n) false j r e s fit = inl e
  levels_done (suc n) true j r e s fit =
      let v = level K j y (2 ^ length ts - 1) r in
      levels_done n (crowded K v) (suc j) v refl (omega arith) (level_keeps Going y going_on K j (2 ^ length ts - 1) r fit)

  -- ---- where nothing can be lost

  -- C has no block but the one at y, and has that
  record Alone (C : ℕ) : Type 0 where
    masked : C < 2 ^ length ts
    only : (i : ℕ) → i < places → bit C i ≡ true → is_at y i ≡ true
    held : (i : ℕ) → y ≡ Some i → bit C i ≡ true

  is_at_lem : (y : Place) (i : ℕ) → is_at y i ≡ true → y ≡ Some i
  is_at_lem (Some j) i e = ap Some (eqb-true j i e)
  is_at_lem None i e = absurd (true≢false (sym e))

  alone_same : length ts ≤ places → (C D : ℕ) → Alone C → Alone D → C ≡ D
  alone_same few C D c d =
      bits_same (length ts) C D c.masked d.masked
      (λ i l. same_test (bit C i) (bit D i) (λ h. d.held i (is_at_lem y i (c.only i (le_trans l few) h))) (λ h. c.held i (is_at_lem y i (d.only i (le_trans l few) h))))

  contents_one : length ts ≤ places → (T : List State) → Every (λ s. Alone s.mask) T → (contents T ≡ []) ⊎ ((C : ℕ) × (contents T ≡ C ∷ []) × Alone C)
  unfolding contents
  contents_one few [] h = inl refl
  contents_one few (s ∷ T) h = inr (go (contents_one few T h.1))
    where
      go : (contents T ≡ []) ⊎ ((C : ℕ) × (contents T ≡ C ∷ []) × Alone C) → (C : ℕ) × (listed s.mask (contents T) ≡ C ∷ []) × Alone C
      go (inl e) = (s.mask, rw e refl, h.0)
      go (inr (C, e, c)) = (C, rw (e, eq-eqb s.mask C (alone_same few s.mask C h.0 c)) refl, c)

  -- the block at y is held
  abbrev pub Holds : ℕ → Type 0
  Holds C = (i : ℕ) → y ≡ Some i → bit C i ≡ true

  holds_on : (C D : ℕ) (w : Work) → Part y D C → Every (λ s. Holds s.mask) w.table → Every (λ s. Holds s.mask) (moved (relabel C D) w).table
  unfolding moved
  holds_on C D w p all =
      move_every Holds (relabel C D) w.table
      (every_weaker (λ s. Holds s.mask) (λ s. Holds (relabel C D s).mask) (λ s h. go s h (eqb s.mask C) refl) w.table all)
    where
      go : (s : State) → Holds s.mask → (b : Bool) → eqb s.mask C ≡ b → Holds (cond b D s.mask)
      go s h true e i q = p.holds i q (rw (← eqb-true s.mask C e) (h i q))
      go s h false e i q = h i q

  pub reduced_few : length ts ≤ places → 0 < K → (w : Work) → Going w → Every (λ s. Holds s.mask) w.table
      → length (contents (reduced K (length ts) y w).table) ≤ K
  unfolding reduced
  reduced_few few some w fit all =
      ⊎_elim (λ e. ltb-false K (length (contents T)) e) (λ down. le_trans (one (contents_one few T (alone T down shaped hold))) some)
      (levels_done 48 (crowded K r) 1 r refl (omega arith) fit)
    where
      r : Reducing
      r = record { work = w; gone = [] }

      T : List State
      T = (reduced K (length ts) y w).table

      shaped : Every (Shaped N Z ts M) T
      shaped = (reduced_keeps Going y going_on K (length ts) w fit).shaped

      hold : Every (λ s. Holds s.mask) T
      hold = reduced_keeps (λ v. Every (λ s. Holds s.mask) v.table) y holds_on K (length ts) w all

      one : (contents T ≡ []) ⊎ ((C : ℕ) × (contents T ≡ C ∷ []) × Alone C) → length (contents T) ≤ 1
      one (inl e) = rw e (omega arith)
      one (inr (C, e, c)) = rw e (omega arith)

      alone_one : (C : ℕ) → (0 < C → lowered places y C ≡ C) → C < 2 ^ length ts → Holds C → Alone C
      alone_one zero stuck l h = record { masked = l; only = λ i k e. absurd (true≢false (sym e ∙ bit_zero i)); held = h }
      alone_one (suc C) stuck l h = record { masked = l; only = lowered_stays places y (suc C) (stuck (omega arith)); held = h }

      alone : (T : List State) → Down 0 T → Every (Shaped N Z ts M) T → Every (λ s. Holds s.mask) T → Every (λ s. Alone s.mask) T
      alone [] a b c = tt
      alone (s ∷ T) a b c = (alone_one s.mask a.0 b.0.0.masked c.0, alone T a.1 b.1 c.1)
