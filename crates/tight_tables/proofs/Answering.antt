-- The answer row: the columns of a slot added up, contents after contents, are the units at each miss count of the table that it stands for.
use mathlib.Core.Path.{◌≡◌, refl, sym, ◌∙◌, subst}
use mathlib.Core.Logic.{◌⊎◌, ⊎_elim}
use mathlib.Core.Bool.{cond}
use mathlib.Core.List.{List}
use Prim.Native.Nat.{ℕ, suc, ◌+◌, ◌-◌, ◌*◌, ◌^◌, ◌≤◌, ◌<◌}
use native.Mathlib.Nat.{le_refl, mul-le-mul_right}
use native.Mathlib.Numerals.{add-one}
use native.Mathlib.Omega.{arith}
use native.Mathlib.Decide.{ℕ_discrete}
use borrow.Author.Tests.{eq-eqb, ne_eqb}
use lib.Dec.{eqb}
use lib.ListN.{length, set, length-set}
use lib.Seq.{get_or-set_same, get_or-set_other, ext_get_or}
use Rattle.rules.specs.Units.{whole}
use Rattle.rules.specs.Counts.{units_at as units_at_of}
use Rattle.rules.specs.Table.{units_of, total}
use Rattle.rules.specs.Questions.{units_at, misses_of, counts_below}
use Rattle.rules.proofs.Counts.{length_counts, counts_at}
use Rattle.tight_rules.specs.Rows.{meaning}
use Rattle.tight_rows.specs.Room.{Words, words_of, Leaves, slot_words}
use Rattle.tight_rows.specs.Rows.{raised}
use Rattle.tight_rows.specs.Grid.{Grid, table_of, rows_of}
use Rattle.tight_tables.specs.Answering.{row_column, column_to}
use Rattle.tight_rows.proofs.Cells.{units_at_where, where_most}
use Rattle.tight_rows.proofs.Grids.{where_grid, sum_one, sum_none}
use Rattle.tight_rows.proofs.Adding.{sum_part}
use Rattle.tight_rows.proofs.Writing.{within_cases}

-- ---- places

pub row_inside : (K W a k n : ℕ) → k < K → a + slot_words K W ≤ n → a + 4 + 2 * K + 2 * W + k * W + W ≤ n
row_inside K W a k n l h = let rows : suc k * W ≤ K * W = mul-le-mul_right W l in omega (arith, rows)

-- ---- cell after cell

-- what cell `to` + j has with that of the row at place `row` of the words v
abbrev pub cells_more : ℕ → ℕ → Words → Words → ℕ → ℕ
cells_more to row v w j = w (to + j) + v (row + j)

-- ---- columns

module _ (g : Grid) where
  -- a cell of contents k is all that it has in that column
  pub column_cell : (k j : ℕ) → j < g.width → row_column g k (g.base + j) ≡ g.cell k j
  column_cell k j l =
      sum_one g.width j (λ i. cond (eqb (g.base + i) (g.base + j)) (g.cell k i) 0) l (λ i m d. rw (ne_eqb (g.base + i) (g.base + j) (λ e. d (omega arith))) refl)
      ∙ rw (eq-eqb (g.base + j) (g.base + j) refl) refl

  -- and in no other column is there anything
  pub column_beside : (k m : ℕ) → (m < g.base) ⊎ (g.base + g.width ≤ m) → row_column g k m ≡ 0
  column_beside k m o =
      sum_none g.width (λ i. cond (eqb (g.base + i) m) (g.cell k i) 0)
      (λ i l. rw (ne_eqb (g.base + i) m (λ e. ⊎_elim (λ b. absurd (omega arith)) (λ b. absurd (omega arith)) o)) refl)

  -- the units with m misses of the table
  column_units : (m : ℕ) → column_to g g.count m ≡ units_at m (table_of g)
  column_units m = sym (units_at_where m (table_of g) ∙ where_grid g (λ D n F. eqb n m))

  column_most : (k m : ℕ) → k ≤ g.count → column_to g k m ≤ total (table_of g)
  column_most k m l = omega (arith, sum_part k g.count (λ i. row_column g i m) l, column_units m, units_at_where m (table_of g), where_most (λ D n F. eqb n m) (table_of g))

  -- ---- contents after contents

  -- the units of the first k contents stand in the row
  abbrev pub ColumnsIn : ℕ → List ℕ → List ℕ → Type 0
  ColumnsIn k rs zs = Leaves (λ _. column_to g k) rs zs

  -- the cells of one contents more fit
  pub cell_fits : (k : ℕ) (rs zs : List ℕ) → ColumnsIn k rs zs → k < g.count → g.base + g.width ≤ length rs → total (table_of g) ≤ whole
      → (j : ℕ) → j < g.width → words_of zs (g.base + j) + g.cell k j < 2 ^ 64
  cell_fits k rs zs h l room full j m =
      let one : column_to g (suc k) (g.base + j) ≤ total (table_of g) = column_most (suc k) (g.base + j) l in
      omega (arith, h.word (g.base + j) (omega arith), column_cell k j m, one)

  pub one_column : (k : ℕ) (rs zs us : List ℕ) → ColumnsIn k rs zs → Leaves (raised g.base g.width (λ j. g.cell k j)) zs us → ColumnsIn (k + 1) rs us
  one_column k rs zs us h s =
      record {
        long = s.long ∙ h.long;
        word = λ m l. s.word m (omega (arith, h.long))
            ∙ within_cases g.base g.width m (λ b. cond b (words_of zs (g.base + (m - g.base)) + g.cell k (m - g.base)) (words_of zs m) ≡ column_to g (k + 1) m)
            (λ p q. inside m l p q) (λ o. rw (add-one k) (omega (arith, h.word m l, column_beside k m o)));
      }
    where
      inside : (m : ℕ) → m < length rs → g.base ≤ m → m < g.base + g.width → words_of zs (g.base + (m - g.base)) + g.cell k (m - g.base) ≡ column_to g (k + 1) m
      inside m l p q =
          let here : g.base + (m - g.base) ≡ m = omega arith in
          rw (add-one k, here) (omega (arith, h.word m l, rw here at (column_cell k (m - g.base) (omega arith))))

  -- whatever stood in the row before it was cleared
  pub columns_since : (k : ℕ) (ss rs zs : List ℕ) → length rs ≡ length ss → ColumnsIn k rs zs → ColumnsIn k ss zs
  columns_since k ss rs zs e h = record { long = h.long ∙ e; word = λ m l. h.word m (omega arith) }

  -- ---- and the lost units

  pub lost_fits : (L : ℕ) (rs zs : List ℕ) → ColumnsIn g.count rs zs → L < length rs → total (table_of g) + g.lost ≤ whole → words_of zs L + g.lost < 2 ^ 64
  lost_fits L rs zs h l full = omega (arith, h.word L l, column_most g.count L (le_refl g.count))

  pub answer_is : (L : ℕ) (rs zs : List ℕ) → ColumnsIn g.count rs zs → L < length rs → set zs L (words_of zs L + g.lost) ≡ counts_below (length rs) (meaning L (rows_of 0 g))
  unfolding meaning units_at_of
  answer_is L rs zs h l =
      ext_get_or 0 (set zs L (words_of zs L + g.lost)) (counts_below (length rs) (meaning L (rows_of 0 g)))
      (length-set zs L (words_of zs L + g.lost) ∙ h.long ∙ sym (length_counts units_of misses_of (length rs) (meaning L (rows_of 0 g))))
      (λ m k. let inside : m < length rs = omega (arith, k, length-set zs L (words_of zs L + g.lost), h.long) in
      at_count m inside (ℕ_discrete m L) ∙ sym (counts_at units_of misses_of (length rs) (meaning L (rows_of 0 g)) m inside))
    where
      at_count : (m : ℕ) → m < length rs → Dec (m ≡ L) → words_of (set zs L (words_of zs L + g.lost)) m ≡ units_at m (meaning L (rows_of 0 g))
      at_count m k (yes e) =
          subst (λ (n : ℕ). words_of (set zs L (words_of zs L + g.lost)) n ≡ units_at n (meaning L (rows_of 0 g))) (sym e)
          (rw (eq-eqb L L refl) (get_or-set_same zs L (words_of zs L + g.lost) 0 (omega (arith, h.long)) ∙ omega (arith, h.word L l, column_units L)))
      at_count m k (no d) =
          rw (ne_eqb L m (λ e. d (sym e)))
          (get_or-set_other zs L m (words_of zs L + g.lost) 0 d ∙ omega (arith, h.word m k, column_units m))
