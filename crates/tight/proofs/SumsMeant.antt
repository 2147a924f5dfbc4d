-- The sums that the code makes over rows that are split: what goes to each mask is what the grid of before sends there, and what is left over is what it leaves over.
use mathlib.Core.Path.{◌≡◌, refl, sym, ap, ap₂, ◌∙◌}
use mathlib.Core.Bool.{Bool, true, false, cond, not}
use Prim.Native.Nat.{ℕ, ◌+◌, ◌/◌, ◌%◌, ◌^◌, ◌≤◌, ◌<◌}
use native.Mathlib.Nat.{le_refl, le_trans, div-le_self, mod-le}
use native.Mathlib.Omega.{arith}
use Rattle.basics.proofs.Sums.{sum_to, sum_eq, sum_le}
use Rattle.rules.specs.declared.Target.{Target}
use Rattle.rules.specs.Contents.{with}
use Rattle.rules.specs.Units.{whole}
use Rattle.tight.specs.declared.Sender.{Sender}
use Rattle.tight_rows.specs.Room.{Words}
use Rattle.tight_rows.specs.Rows.{selected, if, comes_to}
use Rattle.tight.specs.Splitting.{can_lose}
use Rattle.tight.specs.Sending.{start_at, part_in, stay_in, rest_in, goes_from}
use Rattle.tight.specs.Access.{row_goes}
use Rattle.tight.specs.Accessed.{loses, part_of, stay_of, left_in, left_in_all, sum_for, Sendable}
use Rattle.tight_rows.specs.Grid.{Grid}
use Rattle.tight_rows.proofs.Adding.{sum_term}
use Rattle.tight.proofs.CellsChosen.{chosen_part}
use Rattle.tight.proofs.RowsSummed.{goes_whole}

module _ (N : ℕ) (x : Target) (g : Grid) (s : Sender) (w : Words) (ready : Sendable N x g s w) (most : (j : ℕ) → j < g.width → sum_to g.count (λ k. g.cell k j) ≤ whole) where
  -- the words of a row are no more than its cells
  cell_most : (k j : ℕ) → k < g.count → j < g.width → g.cell k j ≤ whole
  cell_most k j l m = le_trans (sum_term k g.count (λ i. g.cell i j) l) (most j m)

  pub word_most : (k j : ℕ) → k < g.count → j < g.width → w (start_at s k + j) ≤ g.cell k j
  word_most k j l m = rw (ready.cell k j l m) (go (can_lose x (g.mask k)) (loses N x g j))
    where
      go : (a b : Bool) → cond a (cond b (g.cell k j / N) (g.cell k j)) (g.cell k j) ≤ g.cell k j
      go true true = div-le_self (g.cell k j) N
      go true false = le_refl (g.cell k j)
      go false b = le_refl (g.cell k j)

  word_small : (k j : ℕ) → k < g.count → j < g.width → w (start_at s k + j) < 2 ^ 64
  word_small k j l m = omega (arith, word_most k j l m, cell_most k j l m)

  -- what is chosen of a row
  lose_part : (k j : ℕ) → k < g.count → j < g.width → selected w (start_at s k + j) (s.lose + j) ≡ if (loses N x g j) (w (start_at s k + j))
  lose_part k j l m = rw (ready.lose j m) (chosen_part (loses N x g j) (w (start_at s k + j)) (word_small k j l m))

  keep_part : (k j : ℕ) → k < g.count → j < g.width → selected w (start_at s k + j) (s.keep + j) ≡ if (not (loses N x g j)) (w (start_at s k + j))
  keep_part k j l m = rw (ready.keep j m) (chosen_part (not (loses N x g j)) (w (start_at s k + j)) (word_small k j l m))

  all_part : (k j : ℕ) → k < g.count → j < g.width → selected w (start_at s k + j) (s.all + j) ≡ w (start_at s k + j)
  all_part k j l m = rw (ready.all j m) (chosen_part true (w (start_at s k + j)) (word_small k j l m))

  left_most : (j : ℕ) → j < g.width → left_in N x g j ≤ whole
  left_most j m = le_trans (sum_le g.count _ (λ k. g.cell k j) (λ k l. go (can_lose x (g.mask k)) (loses N x g j) (g.cell k j))) (most j m)
    where
      go : (a b : Bool) (u : ℕ) → if a (if b (u % N)) ≤ u
      go true true u = mod-le u N
      go true false u = omega arith
      go false b u = omega arith

  pub rest_part : (j : ℕ) → j < g.width → selected w (s.rest + j) (s.all + j) ≡ left_in N x g j
  rest_part j m = rw (ready.all j m) (chosen_part true (w (s.rest + j)) (omega (arith, ready.rest j m, left_most j m)) ∙ ready.rest j m)

  -- where a block can be lost, the row's words are the parts of one way and what stays
  pub lose_cell : (k j : ℕ) → k < g.count → j < g.width → can_lose x (g.mask k) ≡ true → selected w (start_at s k + j) (s.lose + j) ≡ if (loses N x g j) (g.cell k j / N)
  lose_cell k j l m e = lose_part k j l m ∙ ap (if (loses N x g j)) (ready.cell k j l m) ∙ rw e (go (loses N x g j))
    where
      go : (b : Bool) → if b (cond b (g.cell k j / N) (g.cell k j)) ≡ if b (g.cell k j / N)
      go true = refl
      go false = refl

  pub keep_cell : (k j : ℕ) → k < g.count → j < g.width → can_lose x (g.mask k) ≡ true → selected w (start_at s k + j) (s.keep + j) ≡ if (not (loses N x g j)) (g.cell k j)
  keep_cell k j l m e = keep_part k j l m ∙ ap (if (not (loses N x g j))) (ready.cell k j l m) ∙ rw e (go (loses N x g j))
    where
      go : (b : Bool) → if (not b) (cond b (g.cell k j / N) (g.cell k j)) ≡ if (not b) (g.cell k j)
      go true = refl
      go false = refl

  -- where none can be lost, they are the cells
  pub all_cell : (k j : ℕ) → k < g.count → j < g.width → can_lose x (g.mask k) ≡ false → selected w (start_at s k + j) (s.all + j) ≡ g.cell k j
  all_cell k j l m e = all_part k j l m ∙ ready.cell k j l m ∙ rw e refl

  row_goes_lem : (L D k : ℕ) → k < g.count → goes_from N x L s w D k ≡ row_goes N x (comes_to L D) (g.mask k) (g.units k) (part_of N x g k) (stay_of N x g k)
  row_goes_lem L D k l = rw (ready.mask k l, ready.units k l) (go (can_lose x (g.mask k)) refl)
    where
      goes : ℕ → ℕ → ℕ
      goes q stay = row_goes N x (comes_to L D) (g.mask k) (g.units k) q stay

      whole_row : can_lose x (g.mask k) ≡ false → (q stay : ℕ) → goes q stay ≡ goes 0 0
      whole_row e q stay = goes_whole N x (comes_to L D) (g.mask k) (g.units k) e q stay

      go : (b : Bool) → can_lose x (g.mask k) ≡ b → goes (part_in s w k) (stay_in s w k) ≡ goes (part_of N x g k) (stay_of N x g k)
      go true e =
          rw ready.width
          (ap₂ goes (sum_eq g.width _ _ (λ j m. lose_cell k j l m e)) (sum_eq g.width _ _ (λ j m. keep_cell k j l m e)))
      go false e = whole_row e (part_in s w k) (stay_in s w k) ∙ sym (whole_row e (part_of N x g k) (stay_of N x g k))

  -- what is left over in all
  pub rest_meant : rest_in s w ≡ left_in_all N x g
  rest_meant = rw ready.width (sum_eq g.width _ _ (λ j m. rest_part j m))

  -- what goes to each mask
  pub sums_meant : (L D : ℕ) → sum_to s.count (goes_from N x L s w D) + if (comes_to L D (with 0 x.place)) (rest_in s w) ≡ sum_for N x g (comes_to L D)
  sums_meant L D =
      rw ready.count (ap₂ ◌+◌ (sum_eq g.count _ _ (λ k l. row_goes_lem L D k l)) (ap (if (comes_to L D (with 0 x.place))) rest_meant))
