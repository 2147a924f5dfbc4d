-- What the row ends and the settled filled numbers make of a staged table, from the slot's cells and the two groups alone: what is lost, what is set aside, and the table, which is
-- the one that a grid stands for whose rows are those of the slot, gathered. Tables are compared cell by cell (Cells, Grids).
use mathlib.Core.Path.{◌≡◌, refl, sym, ap, ap₂, subst, ◌∙◌}
use mathlib.Core.Logic.{◌≢◌, ◌⊎◌, inl, inr, ⊎_elim}
use mathlib.Core.Bool.{Bool, true, false, cond, ◌&&◌, not}
use mathlib.Core.List.{List, [], ◌∷◌, map}
use Prim.Native.Nat.{ℕ, zero, suc, ◌+◌, ◌-◌, ◌≤◌, ◌<◌, max}
use native.Mathlib.Nat.{le_refl, le_trans, le_step, le_of_suc-le-suc, eq-or-lt_of_le, pos_of_ne-zero, le-max_right, max-le}
use native.Mathlib.Omega.{arith}
use lib.Dec.{eqb, ltb}
use borrow.Author.Tests.{eqb-true, eqb-false, eq-eqb, ne_eqb, ltb-true, ltb-false}
use Rattle.basics.specs.Sums.{sum_over}
use Rattle.basics.proofs.Bools.{same_test}
use Rattle.basics.proofs.Sums.{sum_to, sum_eq}
use Rattle.rules.specs.declared.Filled.{Filled}
use Rattle.rules.specs.declared.State.{State}
use Rattle.rules.specs.Units.{whole, more}
use Rattle.rules.specs.Shape.{Every}
use Rattle.rules.specs.Filling.{filled_at, fullest, same_filled}
use Rattle.rules.specs.Table.{units_of, total}
use Rattle.rules.specs.Fold.{changed}
use Rattle.rules.proofs.Lists.{every_weaker, every_map}
use Rattle.rules.proofs.Splitting.{more_more}
use Rattle.rules.proofs.Table.{every_add}
use Rattle.tight_rules.specs.Rows.{Rows, move, moved, even, evened, filled_for}
use Rattle.tight_rules.specs.Ends.{up_to, cut, raise, raised, below, lowest, ends}
use Rattle.tight_rules.specs.Run.{settled}
use Rattle.tight_rows.specs.Grid.{Grid, table_of}
use Rattle.tight_ends.specs.Stage.{Groups, Placed, Staged}
use Rattle.tight_ends.specs.Ending.{Topped, Bottomed}
use Rattle.tight_ends.specs.Settling.{both, gathered, settled_filled, unlike, unlike_to, staying, Comes, Stays, Kept}
use Rattle.tight_rows.proofs.Cells.{Test, units_where, is_cell, cell, where_alike, where_moved, where_most, move_total, move_rising, move_some, total_where, Known, same_cells}
use Rattle.tight_rows.proofs.Grids.{sum_none, sum_one, mask_apart, grid_cell, grid_no_cell, grid_known, filled_of}
use Rattle.tight_ends.proofs.Columns.{under, column, columns, all_columns, where_none}
use Rattle.tight_ends.proofs.Ending.{where_up_to, total_sum, highest_is, above_top, lowest_is, below_lowest}
use Rattle.tight_ends.proofs.FilledNumbers.{over, over_in, filled_for_each, filled_for_is, fullest_right, filled_for_packed, settled_packed, settled_low, settled_high}

-- ---- gathered rows

module _ (c bot : ℕ) (inside : bot ≤ c) where
  -- the cells of a row that become cell k
  pub gather_sum : (f : ℕ → ℕ) (k : ℕ) → bot + k ≤ c → sum_to (suc c) (λ j. cond (eqb (max j bot) (bot + k)) (f j) 0) ≡ gathered bot f k
  unfolding gathered
  gather_sum f zero l = first c inside
    where
      first : (c : ℕ) → bot ≤ c → sum_to (suc c) (λ j. cond (eqb (max j bot) (bot + 0)) (f j) 0) ≡ sum_to (suc bot) f
      first zero l =
          sum_eq 1 (λ j. cond (eqb (max j bot) (bot + 0)) (f j) 0) f (λ j k. rw (eq-eqb (max j bot) (bot + 0) (omega arith)) refl)
          ∙ ap (λ (n : ℕ). sum_to (suc n) f) (let z : 0 ≡ bot = omega arith in z)
      first (suc c) l = go (eqb bot (suc c)) refl (first c)
        where
          go : (x : Bool) → eqb bot (suc c) ≡ x → (bot ≤ c → sum_to (suc c) (λ j. cond (eqb (max j bot) (bot + 0)) (f j) 0) ≡ sum_to (suc bot) f)
              → sum_to (suc (suc c)) (λ j. cond (eqb (max j bot) (bot + 0)) (f j) 0) ≡ sum_to (suc bot) f
          go true e ih =
              let z : bot ≡ suc c = eqb-true bot (suc c) e in
              sum_eq (suc (suc c)) (λ j. cond (eqb (max j bot) (bot + 0)) (f j) 0) f (λ j k. rw (eq-eqb (max j bot) (bot + 0) (omega arith)) refl)
              ∙ ap (λ (n : ℕ). sum_to (suc n) f) (sym z)
          go false e ih =
              rw (ne_eqb (max (suc c) bot) (bot + 0) (λ p. eqb-false bot (suc c) e (omega arith)))
              (omega (arith, ih (omega (arith, eqb-false bot (suc c) e))))
  gather_sum f (suc k) l =
      sum_one (suc c) (bot + suc k) (λ j. cond (eqb (max j bot) (bot + suc k)) (f j) 0) (omega arith)
      (λ j m d. rw (ne_eqb (max j bot) (bot + suc k) (λ p. d (omega arith))) refl)
      ∙ rw (eq-eqb (max (bot + suc k) bot) (bot + suc k) (omega arith), ne_eqb (suc k) 0 (λ p. absurd (omega arith))) refl

  pub gathered_eq : (f f' : ℕ → ℕ) (k : ℕ) → bot + k ≤ c → ((j : ℕ) → j ≤ c → f j ≡ f' j) → gathered bot f k ≡ gathered bot f' k
  unfolding gathered
  gathered_eq f f' k l e = ap₂ (cond (eqb k 0)) (sum_eq (suc bot) f f' (λ j m. e j (omega arith))) (e (bot + k) l)

  -- no units are gathered where the row has none
  pub gathered_none : (f : ℕ → ℕ) (k : ℕ) → bot + k ≤ c → ((j : ℕ) → j ≤ c → f j ≡ 0) → gathered bot f k ≡ 0
  unfolding gathered
  gathered_none f k l e = go (eqb k 0)
    where
      go : (x : Bool) → cond x (sum_to (suc bot) f) (f (bot + k)) ≡ 0
      go true = sum_none (suc bot) f (λ j m. e j (omega arith))
      go false = e (bot + k) l

-- ---- a table between its ends, and risen

abbrev pub risen : ℕ → ℕ → ℕ → List State → List State
risen b c bot T = move (raise (b + bot)) (up_to (b + c) T)

module _ (b c bot : ℕ) (inside : bot ≤ c) (T : List State) (from : Every (λ s. b ≤ s.misses) T) (full : total T ≤ whole) where
  cut_full : total (up_to (b + c) T) ≤ whole
  cut_full = le_trans (rw (total_where (up_to (b + c) T), where_up_to (b + c) (λ D m F. true) T) (where_most (under (suc (b + c)) (λ D m F. true)) T)) full

  pub risen_full : total (risen b c bot T) ≤ whole
  risen_full = rw (move_total (raise (b + bot)) (λ s. refl) (up_to (b + c) T) cut_full) cut_full

  -- what passes: column by column, those that rise as the lowest
  pub risen_where : (p : Test) → units_where p (risen b c bot T) ≡ sum_to (suc c) (λ j. units_where (column (b + j) (λ D m F. p D (b + max j bot) F)) T)
  risen_where p =
      where_moved (raise (b + bot)) (λ s. refl) p q (λ s. refl) (up_to (b + c) T) cut_full
      ∙ where_up_to (b + c) q T
      ∙ ap (λ (n : ℕ). units_where (under n q) T) (let z : suc (b + c) ≡ b + suc c = omega arith in z)
      ∙ columns q b (suc c) T from
      ∙ sum_eq (suc c) _ _ (λ j l. where_alike (column (b + j) q) (column (b + j) (λ D m F. p D (b + max j bot) F)) T (each j T))
    where
      q : Test
      q D m F = p D (max m (b + bot)) F

      each : (j : ℕ) (T : List State)
          → Every (λ s. (eqb s.misses (b + j) && p s.mask (max s.misses (b + bot)) s.filled) ≡ (eqb s.misses (b + j) && p s.mask (b + max j bot) s.filled)) T
      each j [] = tt
      each j (s ∷ T) = (go (eqb s.misses (b + j)) refl, each j T)
        where
          go : (x : Bool) → eqb s.misses (b + j) ≡ x → (x && p s.mask (max s.misses (b + bot)) s.filled) ≡ (x && p s.mask (b + max j bot) s.filled)
          go false e = refl
          go true e = ap (λ (m : ℕ). p s.mask m s.filled) (let y : s.misses ≡ b + j = eqb-true s.misses (b + j) e in let z : max s.misses (b + bot) ≡ b + max j bot = omega arith in z)

  -- one column
  pub risen_column : (q : ℕ → Filled → Bool) (k : ℕ) → bot + k ≤ c
      → units_where (column (b + bot + k) (λ D m F. q D F)) (risen b c bot T) ≡ gathered bot (λ j. units_where (column (b + j) (λ D m F. q D F)) T) k
  risen_column q k l =
      risen_where (column (b + bot + k) (λ D m F. q D F))
      ∙ sum_eq (suc c) _ _ (λ j m. ap (λ (x : Bool). units_where (column (b + j) (λ D m F. x && q D F)) T) (alike j) ∙ pick j (eqb (max j bot) (bot + k)))
      ∙ gather_sum c bot inside (λ j. units_where (column (b + j) (λ D m F. q D F)) T) k l
    where
      alike : (j : ℕ) → eqb (b + max j bot) (b + bot + k) ≡ eqb (max j bot) (bot + k)
      alike j =
          same_test (eqb (b + max j bot) (b + bot + k)) (eqb (max j bot) (bot + k))
          (λ e. eq-eqb (max j bot) (bot + k) (omega (arith, eqb-true (b + max j bot) (b + bot + k) e)))
          (λ e. eq-eqb (b + max j bot) (b + bot + k) (omega (arith, eqb-true (max j bot) (bot + k) e)))

      pick : (j : ℕ) (x : Bool) → units_where (column (b + j) (λ D m F. x && q D F)) T ≡ cond x (units_where (column (b + j) (λ D m F. q D F)) T) 0
      pick j true = refl
      pick j false = where_none (column (b + j) (λ D m F. false)) T (each T)
        where
          each : (T : List State) → Every (λ s. (eqb s.misses (b + j) && false) ≡ false) T
          each [] = tt
          each (s ∷ T) = (go (eqb s.misses (b + j)), each T)
            where
              go : (x : Bool) → (x && false) ≡ false
              go true = refl
              go false = refl

  -- its misses
  pub risen_within : Every (λ s. (b + bot ≤ s.misses) × (s.misses ≤ b + c)) (risen b c bot T)
  unfolding move
  risen_within =
      every_add (λ s. (b + bot ≤ s.misses) × (s.misses ≤ b + c)) (λ t s p. p) (map (raise (b + bot)) (up_to (b + c) T)) []
      (every_map (λ s. s.misses ≤ b + c) (λ s. units_of s ≢ 0 → (b + bot ≤ s.misses) × (s.misses ≤ b + c)) (raise (b + bot))
      (λ s l n. (le-max_right s.misses (b + bot), max-le l (omega arith))) (up_to (b + c) T) (most T)) tt
    where
      most : (T : List State) → Every (λ s. s.misses ≤ b + c) (up_to (b + c) T)
      most [] = tt
      most (s ∷ T) = go (ltb (b + c) s.misses) refl (most T)
        where
          go : (x : Bool) → ltb (b + c) s.misses ≡ x → Every (λ s. s.misses ≤ b + c) (up_to (b + c) T) → Every (λ s. s.misses ≤ b + c) (cond x (up_to (b + c) T) (s ∷ up_to (b + c) T))
          go true e h = h
          go false e h = (ltb-false (b + c) s.misses e, h)

-- the units that rise
raise_aside : (B : ℕ) (T : List State) → sum_over (λ s. changed s (raise B s)) T ≡ below B T
unfolding below
raise_aside B [] = refl
raise_aside B (s ∷ T) = ap₂ ◌+◌ (go (ltb s.misses B) refl) (raise_aside B T)
  where
    same : same_filled s.filled s.filled ≡ true
    same = rw (eq-eqb s.filled.front s.filled.front refl, eq-eqb s.filled.back s.filled.back refl) refl

    go : (x : Bool) → ltb s.misses B ≡ x → changed s (raise B s) ≡ cond x (units_of s) 0
    go true e = rw (eq-eqb s.mask s.mask refl, ne_eqb s.misses (max s.misses B) (λ p. absurd (omega (arith, ltb-true s.misses B e)))) refl
    go false e = rw (eq-eqb s.mask s.mask refl, eq-eqb s.misses (max s.misses B) (omega (arith, ltb-false s.misses B e)), same) refl

-- ---- a staged table

pub every_both : (P Q : State → Type 0) (T : List State) → Every P T → Every Q T → Every (λ s. P s × Q s) T
every_both P Q [] a b = tt
every_both P Q (s ∷ T) a b = ((a.0, b.0), every_both P Q T a.1 b.1)

turned : (x y : Bool) → (x && y) ≡ (y && x)
turned true true = refl
turned true false = refl
turned false true = refl
turned false false = refl

every_turned : (C m : ℕ) (T : List State) → Every (λ s. (eqb s.misses m && eqb s.mask C) ≡ (eqb s.mask C && eqb s.misses m)) T
every_turned C m [] = tt
every_turned C m (s ∷ T) = (turned (eqb s.misses m) (eqb s.mask C), every_turned C m T)

pub sum_zero : (n : ℕ) (f : ℕ → ℕ) → sum_to n f ≡ 0 → (i : ℕ) → i < n → f i ≡ 0
sum_zero zero f e i l = absurd (omega arith)
sum_zero (suc n) f e i l = ⊎_elim (λ p. ap f p ∙ omega arith) (λ k. sum_zero n f (omega arith) i k) (eq-or-lt_of_le (le_of_suc-le-suc l))

-- a number is among the first n, or none of them
find : (f : ℕ → ℕ) (C n : ℕ) → ((i : ℕ) × (i < n) × (f i ≡ C)) ⊎ ((i : ℕ) → i < n → f i ≢ C)
find f C zero = inr (λ i l. absurd (omega arith))
find f C (suc n) = ⊎_elim (λ p. inl (p.0, le_step p.1, p.2)) (λ p. go (eqb (f n) C) refl p) (find f C n)
  where
    go : (x : Bool) → eqb (f n) C ≡ x → ((i : ℕ) → i < n → f i ≢ C) → ((i : ℕ) × (i < suc n) × (f i ≡ C)) ⊎ ((i : ℕ) → i < suc n → f i ≢ C)
    go true e p = inl (n, le_refl (suc n), eqb-true (f n) C e)
    go false e p = inr (λ i l. ⊎_elim (λ q m. eqb-false (f n) C e (ap f (sym q) ∙ m)) (p i) (eq-or-lt_of_le (le_of_suc-le-suc l)))

-- the units of the states of T whose filled numbers are not those of G, which U gives them
changed_where : (U : List State) (G : ℕ → Filled) (T : List State) → Every (λ s. fullest s.filled (filled_for s.misses U) ≡ G s.misses) T
    → sum_over (λ s. changed s (even U s)) T ≡ units_where (λ D m F. not (same_filled F (G m))) T
unfolding units_where
changed_where U G [] e = refl
changed_where U G (s ∷ T) e =
    ap₂ ◌+◌ (rw (eq-eqb s.mask s.mask refl, eq-eqb s.misses s.misses refl, e.0) (turn (same_filled s.filled (G s.misses)) (units_of s))) (changed_where U G T e.1)
  where
    turn : (x : Bool) (u : ℕ) → cond x 0 u ≡ cond (not x) u 0
    turn true u = refl
    turn false u = refl

module _ (K W : ℕ) (g : Grid) (h : Groups) (r : Rows) (staged : Staged K W g h r) where
  within : Every (λ s. (g.base ≤ s.misses) × (s.misses < g.base + g.width)) r.kept.table
  within = every_weaker (Placed g) (λ s. (g.base ≤ s.misses) × (s.misses < g.base + g.width)) (λ s p. (omega (arith, p.misses), omega (arith, p.misses, p.column))) r.kept.table staged.placed

  from : Every (λ s. g.base ≤ s.misses) r.kept.table
  from = every_weaker (λ s. (g.base ≤ s.misses) × (s.misses < g.base + g.width)) (λ s. g.base ≤ s.misses) (λ s p. p.0) r.kept.table within

  full : total r.kept.table ≤ whole
  full = omega (arith, staged.full)

  group_where : (P : Filled → Bool) (j : ℕ) → j < g.width
      → units_where (column (g.base + j) (λ D m F. P F)) r.kept.table ≡ cond (P (h.hit j)) (h.hit_units j) 0 + cond (P (h.missed j)) (h.missed_units j) 0
  unfolding units_where
  group_where P j l = staged.groups P j l

  -- a row of the slot, column by column
  row_where_lem : (k j : ℕ) → k < g.count → j < g.width → units_where (column (g.base + j) (λ D m F. eqb D (g.mask k))) r.kept.table ≡ g.cell k j
  unfolding units_where
  row_where_lem k j a b = where_alike (column (g.base + j) (λ D m F. eqb D (g.mask k))) (is_cell (g.mask k) (g.base + j)) r.kept.table
      (every_turned (g.mask k) (g.base + j) r.kept.table) ∙ staged.cells k j a b

  -- no row has more than all units
  pub row_most : (k : ℕ) → k < g.count → sum_to g.width (g.cell k) ≤ whole
  row_most k l =
      le_trans
      (rw (sum_eq g.width _ _ (λ j m. sym (row_where_lem k j l m)), ← all_columns (λ D m F. eqb D (g.mask k)) g.base g.width r.kept.table within)
      (where_most (λ D m F. eqb D (g.mask k)) r.kept.table)) full

  -- the units of a column are those of its groups, and all units those of all columns
  tots : (j : ℕ) → j < g.width → units_where (column (g.base + j) (λ D m F. true)) r.kept.table ≡ both h j
  tots j l = group_where (λ F. true) j l

  pub columns_total : total r.kept.table ≡ sum_to g.width (both h)
  columns_total = total_sum g.base g.width r.kept.table within (both h) tots

  -- contents that no row has
  no_row : (C : ℕ) → ((k : ℕ) → k < g.count → g.mask k ≢ C) → (j : ℕ) → units_where (column (g.base + j) (λ D m F. eqb D C)) r.kept.table ≡ 0
  no_row C none j =
      where_none (column (g.base + j) (λ D m F. eqb D C)) r.kept.table
      (every_weaker (Placed g) (λ s. (eqb s.misses (g.base + j) && eqb s.mask C) ≡ false)
      (λ s p. rw (ne_eqb s.mask C (λ e. none p.k p.row (sym p.mask ∙ e))) (go (eqb s.misses (g.base + j)))) r.kept.table staged.placed)
    where
      go : (x : Bool) → (x && false) ≡ false
      go true = refl
      go false = refl

  module _ (c gone : ℕ) (top : Topped (both h) g.width (suc c) gone) (bot low : ℕ) (bottom : Bottomed (both h) W (suc c) bot low) where
    inside : bot ≤ c
    inside = omega (arith, bottom.within)

    -- the row ends
    pub ends_is : ends W r ≡ record { kept = record { table = risen g.base c bot r.kept.table; aside = more (more r.kept.aside gone) low }; lost = r.lost + gone }
    unfolding ends cut raised moved
    ends_is =
        ap (λ (H : ℕ). shape H (lowest W H (up_to H T))) (highest_is b n T within (both h) tots staged.heavy c gone top)
        ∙ ap (λ (B : ℕ). shape (b + c) B) (lowest_is b n T within (both h) tots staged.heavy c gone top W bot low bottom)
        ∙ ap₂ (λ (x y : ℕ). record { kept = record { table = risen b c bot T; aside = more (more r.kept.aside x) y }; lost = r.lost + x })
        (above_top b n T within (both h) tots staged.heavy c gone top)
        (raise_aside (b + bot) (up_to (b + c) T) ∙ below_lowest b n T within (both h) tots staged.heavy c gone top W bot low bottom)
      where
        b : ℕ
        b = g.base

        n : ℕ
        n = g.width

        T : List State
        T = r.kept.table

        shape : ℕ → ℕ → Rows
        shape H B = record { kept = raised B (cut H r).kept; lost = (cut H r).lost }

    -- ---- the filled numbers

    -- of a column: those that the groups give
    filled_column : (k : ℕ) → bot + k ≤ c → filled_for (g.base + bot + k) (risen g.base c bot r.kept.table) ≡ settled_filled h bot k
    filled_column k l =
        filled_for_is (g.base + bot + k) (risen g.base c bot r.kept.table) (move_some (raise (g.base + bot)) (up_to (g.base + c) r.kept.table)) (settled_filled h bot k) (settled_packed h bot k)
        (λ i x e. settled_low h bot k i x (sym (units i x) ∙ e)) (λ i x m. units i x ∙ settled_high h bot k i x m)
      where
        units : (i x : ℕ) → units_where (column (g.base + bot + k) (λ D n F. over i x F)) (risen g.base c bot r.kept.table) ≡ gathered bot (over_in h i x) k
        units i x =
            risen_column g.base c bot inside r.kept.table from full (λ D F. over i x F) k l
            ∙ gathered_eq c bot inside _ (over_in h i x) k l (λ j m. group_where (over i x) j (omega (arith, top.within)))

    -- the filled numbers of m misses
    abbrev filled_from : ℕ → Filled
    filled_from m = settled_filled h bot (m - (g.base + bot))

    -- each state gets them
    evened_each : Every (λ s. fullest s.filled (filled_for s.misses (risen g.base c bot r.kept.table)) ≡ filled_from s.misses) (risen g.base c bot r.kept.table)
    evened_each =
        every_weaker (λ s. Most s × ((g.base + bot ≤ s.misses) × (s.misses ≤ g.base + c)))
        (λ s. fullest s.filled (filled_for s.misses (risen g.base c bot r.kept.table)) ≡ filled_from s.misses)
        (λ s p. fullest_right s.filled (filled_for s.misses (risen g.base c bot r.kept.table)) (filled_for_packed s.misses (risen g.base c bot r.kept.table)) p.0 ∙ here s.misses p.1)
        (risen g.base c bot r.kept.table)
        (every_both Most (λ s. (g.base + bot ≤ s.misses) × (s.misses ≤ g.base + c)) (risen g.base c bot r.kept.table) (filled_for_each (risen g.base c bot r.kept.table))
        (risen_within g.base c bot inside r.kept.table from full))
      where
        Most : State → Type 0
        Most s = (i : ℕ) → filled_at s.filled i ≤ filled_at (filled_for s.misses (risen g.base c bot r.kept.table)) i

        here : (m : ℕ) → (g.base + bot ≤ m) × (m ≤ g.base + c) → filled_for m (risen g.base c bot r.kept.table) ≡ filled_from m
        here m (a, b) =
            ap (λ (n : ℕ). filled_for n (risen g.base c bot r.kept.table)) (let z : m ≡ g.base + bot + (m - (g.base + bot)) = omega arith in z)
            ∙ filled_column (m - (g.base + bot)) (omega arith)

    -- the units whose filled numbers change
    unlike_is : sum_over (λ s. changed s (even (risen g.base c bot r.kept.table) s)) (risen g.base c bot r.kept.table) ≡ unlike_to h bot (suc c)
    unfolding unlike_to unlike
    unlike_is =
        changed_where (risen g.base c bot r.kept.table) filled_from (risen g.base c bot r.kept.table) evened_each
        ∙ risen_where g.base c bot inside r.kept.table from full (λ D m F. not (same_filled F (filled_from m)))
        ∙ sum_eq (suc c) _ _ (λ j l. group_where (λ F. not (same_filled F (filled_from (g.base + max j bot)))) j (omega (arith, top.within)) ∙ ap (unlike h j) (ap (settled_filled h bot) (shift j)))
      where
        shift : (j : ℕ) → g.base + max j bot - (g.base + bot) ≡ j - bot
        shift j = omega arith

    -- ---- all of it

    pub settled_aside : (settled (ends W r)).kept.aside ≡ more r.kept.aside (gone + low + unlike_to h bot (suc c))
    unfolding evened moved
    settled_aside =
        ap (λ (q : Rows). (settled q).kept.aside) ends_is
        ∙ ap (more (more (more r.kept.aside gone) low)) unlike_is
        ∙ ap (λ (x : ℕ). more x (unlike_to h bot (suc c))) (more_more r.kept.aside gone low)
        ∙ more_more r.kept.aside (gone + low) (unlike_to h bot (suc c))

    pub settled_lost : (settled (ends W r)).lost ≡ r.lost + gone
    settled_lost = ap (λ (q : Rows). q.lost) ends_is

    -- a grid of the rows that keep units, gathered, with these filled numbers
    module _ (g' : Grid) (kept : Kept g g' bot) (wide : g'.width ≡ suc c - bot) (filled : (i : ℕ) → i < g'.width → g'.filled i ≡ settled_filled h bot i) where
      -- the table with settled filled numbers
      abbrev E : List State
      E = move (even (risen g.base c bot r.kept.table)) (risen g.base c bot r.kept.table)

      same_filled_lem : (m : ℕ) → (g.base + bot ≤ m) × (m ≤ g.base + c) → filled_from m ≡ filled_of g' m
      same_filled_lem m (a, b) =
          sym (filled (m - (g.base + bot)) (omega (arith, wide))) ∙ ap g'.filled (let z : m - (g.base + bot) ≡ m - g'.base = omega (arith, kept.base) in z)

      even_known : Known (filled_of g') (move (even (risen g.base c bot r.kept.table)) (risen g.base c bot r.kept.table))
      unfolding move
      even_known =
          record {
            rises = move_rising (even U) U;
            some = move_some (even U) U;
            filled = every_add (λ s. s.filled ≡ filled_of g' s.misses) (λ t s p. p) (map (even U) U) []
                (every_map (λ s. (fullest s.filled (filled_for s.misses U) ≡ filled_from s.misses) × ((g.base + bot ≤ s.misses) × (s.misses ≤ g.base + c)))
                (λ s. units_of s ≢ 0 → s.filled ≡ filled_of g' s.misses) (even U) (λ s p n. p.0 ∙ same_filled_lem s.misses p.1) U
                (every_both (λ s. fullest s.filled (filled_for s.misses U) ≡ filled_from s.misses) (λ s. (g.base + bot ≤ s.misses) × (s.misses ≤ g.base + c)) U evened_each
                (risen_within g.base c bot inside r.kept.table from full))) tt;
          }
        where
          U : List State
          U = risen g.base c bot r.kept.table

      even_cell : (C m : ℕ) → cell C m E ≡ cell C m (risen g.base c bot r.kept.table)
      even_cell C m =
          where_moved (even (risen g.base c bot r.kept.table)) (λ s. refl) (is_cell C m) (is_cell C m) (λ s. refl) (risen g.base c bot r.kept.table)
          (risen_full g.base c bot inside r.kept.table from full)

      -- a cell between the ends: what is gathered of the contents' columns
      between : (C k : ℕ) → bot + k ≤ c → cell C (g.base + bot + k) E ≡ gathered bot (λ j. units_where (column (g.base + j) (λ D m F. eqb D C)) r.kept.table) k
      between C k l =
          even_cell C (g.base + bot + k)
          ∙ where_alike (is_cell C (g.base + bot + k)) (column (g.base + bot + k) (λ D m F. eqb D C)) (risen g.base c bot r.kept.table) (backwards C (g.base + bot + k) (risen g.base c bot r.kept.table))
          ∙ risen_column g.base c bot inside r.kept.table from full (λ D F. eqb D C) k l
        where
          backwards : (C m : ℕ) (T : List State) → Every (λ s. (eqb s.mask C && eqb s.misses m) ≡ (eqb s.misses m && eqb s.mask C)) T
          backwards C m [] = tt
          backwards C m (s ∷ T) = (turned (eqb s.mask C) (eqb s.misses m), backwards C m T)

      of_row : (i k : ℕ) → i < g.count → bot + k ≤ c → cell (g.mask i) (g.base + bot + k) E ≡ gathered bot (g.cell i) k
      of_row i k a l = between (g.mask i) k l ∙ gathered_eq c bot inside _ (g.cell i) k l (λ j m. row_where_lem i j a (omega (arith, top.within)))

      of_none : (C k : ℕ) → ((i : ℕ) → i < g.count → g.mask i ≢ C) → bot + k ≤ c → cell C (g.base + bot + k) E ≡ 0
      of_none C k none l = between C k l ∙ gathered_none c bot inside _ k l (λ j m. no_row C none j)

      same_row : (i k : ℕ) → i < g.count → k < g.count → g.mask i ≡ g.mask k → i ≡ k
      same_row i k a b e = go (eqb i k) refl
        where
          go : (x : Bool) → eqb i k ≡ x → i ≡ k
          go true p = eqb-true i k p
          go false p = absurd (mask_apart g g.count staged.rises i k a b (eqb-false i k p) e)

      -- the grid's cells are these
      cell_of_row : (i k : ℕ) → i < g.count → bot + k ≤ c → gathered bot (g.cell i) k ≡ cell (g.mask i) (g.base + bot + k) (table_of g')
      cell_of_row i k a l = go (eqb (staying g g' bot i) 0) refl
        where
          narrow : k < g'.width
          narrow = omega (arith, wide)

          go : (x : Bool) → eqb (staying g g' bot i) 0 ≡ x → gathered bot (g.cell i) k ≡ cell (g.mask i) (g.base + bot + k) (table_of g')
          go true e =
              sum_zero g'.width (gathered bot (g.cell i)) (eqb-true (staying g g' bot i) 0 e) k narrow
              ∙ sym (grid_no_cell g' (g.mask i) (g.base + bot + k) (λ k' j p q m n. gone_row k' p m))
            where
              gone_row : (k' : ℕ) → k' < g'.count → g'.mask k' ≡ g.mask i → ⊥
              gone_row k' p m =
                  let f = kept.comes k' p in
                  let z : f.from ≡ i = same_row f.from i f.row a (sym f.mask ∙ m) in
                  absurd (omega (arith, f.some, ap (λ (n : ℕ). staying g g' bot n) z, eqb-true (staying g g' bot i) 0 e))
          go false e =
              ap (λ (n : ℕ). gathered bot (g.cell n) k) (sym z)
              ∙ sym (f.cells k narrow)
              ∙ sym (grid_cell g' kept.rises t.to k t.row narrow)
              ∙ ap₂ (λ (C m : ℕ). cell C m (table_of g')) t.mask (ap (◌+ k) kept.base)
            where
              t : Stays g g' i
              t = kept.stays i a (pos_of_ne-zero (eqb-false (staying g g' bot i) 0 e))

              f : Comes g g' bot t.to
              f = kept.comes t.to t.row

              z : f.from ≡ i
              z = same_row f.from i f.row a (sym f.mask ∙ t.mask)

      same_between : (C k : ℕ) → bot + k ≤ c → cell C (g.base + bot + k) E ≡ cell C (g.base + bot + k) (table_of g')
      same_between C k l = ⊎_elim found none (find g.mask C g.count)
        where
          found : (i : ℕ) × (i < g.count) × (g.mask i ≡ C) → cell C (g.base + bot + k) E ≡ cell C (g.base + bot + k) (table_of g')
          found (i, a, e) = rw (← e) (of_row i k a l ∙ cell_of_row i k a l)

          none : ((i : ℕ) → i < g.count → g.mask i ≢ C) → cell C (g.base + bot + k) E ≡ cell C (g.base + bot + k) (table_of g')
          none n =
              of_none C k n l
              ∙ sym (grid_no_cell g' C (g.base + bot + k) (λ k' j p q m e. n (kept.comes k' p).from (kept.comes k' p).row (sym (kept.comes k' p).mask ∙ m)))

      -- beyond the ends there are none
      same_beyond : (C m : ℕ) → (m < g.base + bot) ⊎ (g.base + c < m) → cell C m E ≡ cell C m (table_of g')
      same_beyond C m out =
          even_cell C m
          ∙ where_none (is_cell C m) (risen g.base c bot r.kept.table)
          (every_weaker {A = State} (λ s. (g.base + bot ≤ s.misses) × (s.misses ≤ g.base + c)) (λ s. (eqb s.mask C && eqb s.misses m) ≡ false)
          (λ s p. rw (ne_eqb s.misses m (λ e. apart out s.misses p e)) (go (eqb s.mask C))) (risen g.base c bot r.kept.table) (risen_within g.base c bot inside r.kept.table from full))
          ∙ sym (grid_no_cell g' C m (λ k j a b p e. apart out (g'.base + j) (omega (arith, kept.base), omega (arith, kept.base, wide)) e))
        where
          apart : (m < g.base + bot) ⊎ (g.base + c < m) → (n : ℕ) → (g.base + bot ≤ n) × (n ≤ g.base + c) → n ≡ m → ⊥
          apart (inl l) n p e = absurd (omega (arith, p.0))
          apart (inr l) n p e = absurd (omega (arith, p.1))

          go : (x : Bool) → (x && false) ≡ false
          go true = refl
          go false = refl

      same : (C m : ℕ) → cell C m E ≡ cell C m (table_of g')
      same C m = go (ltb m (g.base + bot)) (ltb (g.base + c) m) refl refl
        where
          go : (x y : Bool) → ltb m (g.base + bot) ≡ x → ltb (g.base + c) m ≡ y → cell C m E ≡ cell C m (table_of g')
          go true y p q = same_beyond C m (inl (ltb-true m (g.base + bot) p))
          go false true p q = same_beyond C m (inr (ltb-true (g.base + c) m q))
          go false false p q =
              let a : g.base + bot ≤ m = ltb-false m (g.base + bot) p in
              let b : m ≤ g.base + c = ltb-false (g.base + c) m q in
              let e : g.base + bot + (m - (g.base + bot)) ≡ m = omega arith in
              subst (λ (n : ℕ). cell C n E ≡ cell C n (table_of g')) e (same_between C (m - (g.base + bot)) (omega arith))

      -- the table is the one that the grid stands for
      pub settled_table : (settled (ends W r)).kept.table ≡ table_of g'
      unfolding evened moved
      settled_table = ap (λ (q : Rows). (settled q).kept.table) ends_is ∙ same_cells (filled_of g') E (table_of g') even_known (grid_known g' kept.rises) same
