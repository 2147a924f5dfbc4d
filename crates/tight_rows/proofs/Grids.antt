-- The table that a grid stands for: its sums are sums over the grid's cells, and where the grid is neat it is one that its cells and filled numbers determine.
use Rattle.std.proofs.Common.{◌≡◌, ℕ, zero, suc, ◌+◌, ◌-◌, ◌<◌, ◌≤◌, Bool, true, false, cond, eqb, ltb, ◌≢◌, ◌⊎◌, List, [], ◌∷◌, ◌++◌, sym, refl, ap, ◌∙◌, ap₂, inl, inr, ⊎_elim, le_refl, le_of_suc-le-suc, not-suc-le-zero, pos_of_ne-zero, eq-or-lt_of_le, arith, ltb-false, ltb-true, eq-eqb, eqb-true}
use native.Mathlib.Nat.{le_step}
use Rattle.basics.proofs.Bools.{not_both}
use Rattle.basics.specs.Sums.{sum_over}
use Rattle.basics.proofs.Sums.{sum_to, sum_append}
use Rattle.rules.specs.declared.Filled.{Filled}
use Rattle.rules.specs.declared.State.{State}
use Rattle.rules.specs.Ordered.{before}
use Rattle.rules.specs.Shape.{Every}
use Rattle.rules.specs.Table.{order, units_of, present, listing}
use Rattle.rules.proofs.Lists.{every_append}
use Rattle.rules.proofs.Ordered.{number_before, number_same}
use Rattle.rules.proofs.Listings.{every_present}
use Rattle.rules.proofs.Table.{Rising}
use Rattle.tight_rows.specs.Grid.{Grid, state_of, row_to, table_to, table_of}
use Rattle.tight_rows.proofs.Cells.{Test, passes, units_where, is_cell, cell, Known}

-- ---- sums

module _ (g : Grid) where
  -- whether cell j of contents k passes a test
  abbrev pub cell_passes : Test → ℕ → ℕ → Bool
  cell_passes p k j = p (g.mask k) (g.base + j) (g.filled j)

  -- the units of the first n cells of contents k that pass
  abbrev pub row_where : Test → ℕ → ℕ → ℕ
  row_where p k n = sum_to n (λ j. cond (cell_passes p k j) (g.cell k j) 0)

  -- a sum over the states, to which those of 0 units give nothing
  module _ (F : State → ℕ) (none : (k j : ℕ) → g.cell k j ≡ 0 → F (state_of g k j) ≡ 0) where
    sum_row : (k n : ℕ) → sum_over F (row_to g k n) ≡ sum_to n (λ j. F (state_of g k j))
    unfolding row_to
    sum_row k zero = refl
    sum_row k (suc n) = sum_append F (row_to g k n) (present (state_of g k n ∷ [])) ∙ ap₂ ◌+◌ (sum_row k n) (go (eqb (g.cell k n) 0) refl)
      where
        go : (b : Bool) → eqb (g.cell k n) 0 ≡ b → sum_over F (cond b [] (state_of g k n ∷ [])) ≡ F (state_of g k n)
        go true e = sym (none k n (eqb-true (g.cell k n) 0 e))
        go false e = omega arith

    sum_table : (n : ℕ) → sum_over F (table_to g n) ≡ sum_to n (λ k. sum_to g.width (λ j. F (state_of g k j)))
    unfolding table_to
    sum_table zero = refl
    sum_table (suc n) = sum_append F (table_to g n) (row_to g n g.width) ∙ ap₂ ◌+◌ (sum_table n) (sum_row n g.width)

    -- cell by cell
    pub sum_grid : sum_over F (table_of g) ≡ sum_to g.count (λ k. sum_to g.width (λ j. F (state_of g k j)))
    unfolding table_of
    sum_grid = sum_table g.count

  -- the units of a grid that pass a test
  pub where_grid : (p : Test) → units_where p (table_of g) ≡ sum_to g.count (λ k. row_where p k g.width)
  unfolding units_where
  where_grid p = sum_grid (λ s. cond (passes p s) (units_of s) 0) (λ k j e. nothing (cell_passes p k j) (g.cell k j) e)
    where
      nothing : (b : Bool) (u : ℕ) → u ≡ 0 → cond b u 0 ≡ 0
      nothing true u e = e
      nothing false u e = refl

-- ---- one cell

-- a sum of which all parts are 0
pub sum_none : (n : ℕ) (f : ℕ → ℕ) → ((j : ℕ) → j < n → f j ≡ 0) → sum_to n f ≡ 0
sum_none zero f none = refl
sum_none (suc n) f none = omega (arith, sum_none n f (λ j k. none j (le_step k)), none n (le_refl (suc n)))

-- a sum of which all but one part are 0
pub sum_one : (n i : ℕ) (f : ℕ → ℕ) → i < n → ((j : ℕ) → j < n → j ≢ i → f j ≡ 0) → sum_to n f ≡ f i
sum_one zero i f l none = absurd (not-suc-le-zero l)
sum_one (suc n) i f l none = ⊎_elim here (λ k. before_it k (sum_one n i f k (λ j m. none j (le_step m)))) (eq-or-lt_of_le (le_of_suc-le-suc l))
  where
    here : i ≡ n → sum_to (suc n) f ≡ f i
    here e = rw e (omega (arith, sum_none n f (λ j k. none j (le_step k) (λ s. absurd (omega arith)))))

    before_it : i < n → sum_to n f ≡ f i → sum_to (suc n) f ≡ f i
    before_it k e = omega (arith, none n (le_refl (suc n)) (λ s. absurd (omega arith)))

module _ (g : Grid) (n : ℕ) (rises : (i k : ℕ) → i < k → k < n → g.mask i < g.mask k) where
  -- different contents have different masks
  pub mask_apart : (i k : ℕ) → i < n → k < n → i ≢ k → g.mask i ≢ g.mask k
  mask_apart i k a b d e = ⊎_elim (λ l. absurd (omega (arith, rises i k l b))) (λ l. absurd (omega (arith, rises k i l a))) (either_way i k d)
    where
      either_way : (i k : ℕ) → i ≢ k → (i < k) ⊎ (k < i)
      either_way i k d = go (ltb i k) refl
        where
          go : (b : Bool) → ltb i k ≡ b → (i < k) ⊎ (k < i)
          go true e = inl (ltb-true i k e)
          go false e = inr (omega (arith, ltb-false i k e, d))

-- the grid has no cell at C, m
module _ (g : Grid) where
  abbrev part : ℕ → ℕ → ℕ → ℕ → ℕ
  part C m k j = cond (cell_passes g (is_cell C m) k j) (g.cell k j) 0

  part_none : (C m k j : ℕ) → ((g.mask k ≡ C) → (g.base + j ≡ m) → ⊥) → part C m k j ≡ 0
  part_none C m k j h = rw (not_both (eqb (g.mask k) C) (eqb (g.base + j) m) (λ a b. h (eqb-true (g.mask k) C a) (eqb-true (g.base + j) m b))) refl

  -- a cell of the table is the grid's
  pub grid_cell : ((i k : ℕ) → i < k → k < g.count → g.mask i < g.mask k) → (k j : ℕ) → k < g.count → j < g.width
      → cell (g.mask k) (g.base + j) (table_of g) ≡ g.cell k j
  grid_cell rises k j a b =
      where_grid g (is_cell C m)
      ∙ sum_one g.count k (λ i. row_where g (is_cell C m) i g.width) a
      (λ i l d. sum_none g.width (part C m i) (λ n h. part_none C m i n (λ p q. mask_apart g g.count rises i k l a d p)))
      ∙ sum_one g.width j (part C m k) b (λ i l d. part_none C m k i (λ p q. d (omega arith)))
      ∙ rw (eq-eqb C C refl, eq-eqb m m refl) refl
    where
      C : ℕ
      C = g.mask k

      m : ℕ
      m = g.base + j

  -- beside the contents of the grid, and beside the cells in use, there is nothing
  pub grid_no_cell : (C m : ℕ) → ((k j : ℕ) → k < g.count → j < g.width → g.mask k ≡ C → g.base + j ≡ m → ⊥) → cell C m (table_of g) ≡ 0
  grid_no_cell C m h =
      where_grid g (is_cell C m)
      ∙ sum_none g.count (λ i. row_where g (is_cell C m) i g.width) (λ i l. sum_none g.width (part C m i) (λ j b. part_none C m i j (h i j l b)))

-- ---- what kind of table it is

in_order_append : (S T : List State) → Rising S → Rising T → Every (λ s. Every (λ t. order s t ≡ before) T) S → Rising (S ++ T)
in_order_append [] T a b c = b
in_order_append (s ∷ S) T a b c = (every_append (λ t. order s t ≡ before) S T a.0 c.0, in_order_append S T a.1 b c.1)

lower_mask : (s t : State) → s.mask < t.mask → order s t ≡ before
unfolding order
lower_mask s t l = rw (number_before s.mask t.mask l) refl

fewer_misses : (s t : State) → s.mask ≡ t.mask → s.misses < t.misses → order s t ≡ before
unfolding order
fewer_misses s t e l = rw (number_same s.mask t.mask e, number_before s.misses t.misses l) refl

module _ (g : Grid) (P : State → Type 0) where
  pub every_row : (k n : ℕ) → ((j : ℕ) → j < n → g.cell k j ≢ 0 → P (state_of g k j)) → Every P (row_to g k n)
  unfolding row_to
  every_row k zero h = tt
  every_row k (suc n) h =
      every_append P (row_to g k n) (present (state_of g k n ∷ [])) (every_row k n (λ j l. h j (le_step l)))
      (every_present listing P (state_of g k n ∷ []) (h n (le_refl (suc n)), tt))

  every_table : (n : ℕ) → ((k j : ℕ) → k < n → j < g.width → g.cell k j ≢ 0 → P (state_of g k j)) → Every P (table_to g n)
  unfolding table_to
  every_table zero h = tt
  every_table (suc n) h =
      every_append P (table_to g n) (row_to g n g.width) (every_table n (λ k j l. h k j (le_step l))) (every_row n g.width (λ j. h n j (le_refl (suc n))))

  -- what is so of the state of every cell that is not 0
  pub every_cell : ((k j : ℕ) → k < g.count → j < g.width → g.cell k j ≢ 0 → P (state_of g k j)) → Every P (table_of g)
  unfolding table_of
  every_cell h = every_table g.count h

module _ (g : Grid) where
  row_rises : (k n : ℕ) → Rising (row_to g k n)
  unfolding row_to
  row_rises k zero = tt
  row_rises k (suc n) =
      in_order_append (row_to g k n) (present (state_of g k n ∷ [])) (row_rises k n) (last (eqb (g.cell k n) 0))
      (every_row g (λ s. Every (λ t. order s t ≡ before) (present (state_of g k n ∷ []))) k n
      (λ j l u. every_present listing (λ t. order (state_of g k j) t ≡ before) (state_of g k n ∷ []) ((λ v. fewer_misses (state_of g k j) (state_of g k n) refl (omega arith)), tt)))
    where
      last : (b : Bool) → Rising (cond b [] (state_of g k n ∷ []))
      last true = tt
      last false = (tt, tt)

  table_rises : (n : ℕ) → ((i k : ℕ) → i < k → k < n → g.mask i < g.mask k) → Rising (table_to g n)
  unfolding table_to
  table_rises zero h = tt
  table_rises (suc n) h =
      in_order_append (table_to g n) (row_to g n g.width) (table_rises n (λ i k l m. h i k l (le_step m))) (row_rises n g.width)
      (every_table g (λ s. Every (λ t. order s t ≡ before) (row_to g n g.width)) n
      (λ i j l w u. every_row g (λ t. order (state_of g i j) t ≡ before) n g.width (λ q r v. lower_mask (state_of g i j) (state_of g n q) (h i n l (le_refl (suc n))))))

  -- the filled numbers of m misses
  abbrev pub filled_of : ℕ → Filled
  filled_of m = g.filled (m - g.base)

  -- a grid whose masks rise stands for a table that its cells and filled numbers determine
  pub grid_known : ((i k : ℕ) → i < k → k < g.count → g.mask i < g.mask k) → Known filled_of (table_of g)
  unfolding table_of
  grid_known rises =
      record {
        rises = table_rises g.count rises;
        some = every_cell g (λ s. 1 ≤ units_of s) (λ k j l w u. pos_of_ne-zero u);
        filled = every_cell g (λ s. s.filled ≡ filled_of s.misses) (λ k j l w u. ap g.filled (omega arith));
      }
