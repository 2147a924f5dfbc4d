-- What a table in a slot gives to the code of an access: its masks are those of the tracked blocks, none has more blocks of a set than ways, its units are WHOLE with the lost ones,
-- and its first miss count is small.
use mathlib.Core.Path.{◌≡◌, refl, sym, ap, ◌∙◌}
use mathlib.Core.Bool.{Bool, true, false, cond}
use mathlib.Core.List.{List, [], ◌∷◌}
use Prim.Native.Nat.{ℕ, ◌+◌, ◌^◌, ◌≤◌, ◌<◌}
use native.Mathlib.Nat.{le_trans, le_of_eq}
use native.Mathlib.Omega.{arith}
use lib.Dec.{leb, ltb}
use lib.ListN.{length}
use borrow.Author.Tests.{leb-false, lt-leb, ltb-false, le-ltb}
use Rattle.basics.proofs.Sums.{sum_to, sum_eq, sum_le}
use Rattle.rules.specs.declared.State.{State}
use Rattle.rules.specs.declared.Target.{Target}
use Rattle.rules.specs.AnyTable.{total as total_of}
use Rattle.rules.specs.Contents.{size}
use Rattle.rules.specs.Units.{whole}
use Rattle.rules.specs.Table.{total}
use Rattle.rules.specs.Shape.{Every, Aimed, Shaped}
use Rattle.rules.proofs.Lists.{every_weaker}
use Rattle.tight.specs.Access.{risk}
use Rattle.tight.specs.Accessed.{Holding}
use Rattle.tight_rows.specs.Grid.{Grid, table_of}
use Rattle.tight_rows.proofs.Adding.{sum_term}
use Rattle.tight_rows.proofs.Cells.{total_where}
use Rattle.tight_ends.proofs.Columns.{where_none}
use Rattle.tight_rows.proofs.Grids.{where_grid, every_cell}
use Rattle.tight_ends.proofs.Settled.{every_both, sum_zero}

-- what is so of every state of a table that has units
any_state : (P : Type 0) (T : List State) → 1 ≤ total T → Every (λ s. P) T → P
unfolding total_of
any_state P [] l h = absurd (omega arith)
any_state P (s ∷ T) l h = h.0

module _ (N Z : ℕ) (ts : List ℕ) (K W M : ℕ) (g : Grid) (holds : Holding N Z ts K W M g) where
  -- what no state's contents are, no row's are
  no_row : (p : ℕ → Bool) → Every (λ s. p s.mask ≡ false) (table_of g) → (k : ℕ) → k < g.count → p (g.mask k) ≡ false
  no_row p none k l = go (p (g.mask k)) refl
    where
      row : sum_to g.width (λ j. cond (p (g.mask k)) (g.cell k j) 0) ≡ 0
      row =
          sum_zero g.count (λ i. sum_to g.width (λ j. cond (p (g.mask i)) (g.cell i j) 0))
          (sym (where_grid g (λ C m F. p C)) ∙ where_none (λ C m F. p C) (table_of g) none) k l

      go : (b : Bool) → p (g.mask k) ≡ b → b ≡ false
      go false e = refl
      go true e =
          absurd
          (omega (
            arith,
            row,
            sum_eq g.width (λ j. cond (p (g.mask k)) (g.cell k j) 0) (g.cell k) (λ j m. ap (λ (b : Bool). cond b (g.cell k j) 0) e),
            holds.neat.summed k l,
            holds.neat.some k l,
          ))

  pub row_low : (k : ℕ) → k < g.count → g.mask k < 2 ^ length ts
  row_low k l =
      leb-false (2 ^ length ts) (g.mask k)
      (no_row (leb (2 ^ length ts)) (every_weaker (Shaped N Z ts M) (λ s. leb (2 ^ length ts) s.mask ≡ false) (λ s p. lt-leb (2 ^ length ts) s.mask p.0.masked) (table_of g) holds.fit.shaped) k l)

  pub row_small : (x : Target) → Aimed Z ts x → (k : ℕ) → k < g.count → size (risk x (g.mask k)) ≤ N
  row_small x aim k l =
      ltb-false N (size (risk x (g.mask k)))
      (no_row (λ C. ltb N (size (risk x C))) (every_weaker (Shaped N Z ts M) (λ s. ltb N (size (risk x s.mask)) ≡ false) (λ s p. le-ltb N (size (risk x s.mask)) (small s p)) (table_of g) holds.fit.shaped) k l)
    where
      small : (s : State) → Shaped N Z ts M s → size (risk x s.mask) ≤ N
      small s p = rw aim.beside (le_trans (p.0.small x.set).0 (p.0.small x.set).1)

  -- the units of all rows
  pub units_whole : sum_to g.count g.units + g.lost ≡ whole
  units_whole =
      omega (arith, sum_eq g.count g.units (λ k. sum_to g.width (g.cell k)) holds.neat.summed, total_where (table_of g), where_grid g (λ C m F. true), holds.fit.full)

  -- those of a column
  pub column_most : (j : ℕ) → j < g.width → sum_to g.count (λ k. g.cell k j) ≤ whole
  column_most j m =
      le_trans
      (sum_le g.count (λ k. g.cell k j) g.units (λ k l. le_trans (sum_term j g.width (g.cell k) m) (le_of_eq (sym (holds.neat.summed k l))))) (omega (arith, units_whole))

  -- the first miss count
  pub base_most : M < 4294967296 → g.base ≤ M
  base_most short =
      any_state (g.base ≤ M) (table_of g) (omega (arith, holds.fit.full, holds.few))
      (every_weaker (λ s. (g.base ≤ s.misses) × Shaped N Z ts M s) (λ s. g.base ≤ M) (λ s p. le_trans p.0 p.1.0.few) (table_of g)
      (every_both (λ s. g.base ≤ s.misses) (Shaped N Z ts M) (table_of g) (every_cell g (λ s. g.base ≤ s.misses) (λ k j l m n. omega arith)) holds.fit.shaped))
