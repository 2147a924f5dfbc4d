-- The steps of an access before anything is sent on: cells are chosen, the stage has its units, and rows are split. What then stands in the words are the rows of the slot's grid, as
-- they are sent on.
use mathlib.Core.Path.{◌≡◌, refl, ap, ap₂, ◌∙◌}
use mathlib.Core.Logic.{◌⊎◌, inl, inr}
use mathlib.Core.Bool.{Bool, true, false, cond}
use mathlib.Core.List.{List}
use Prim.Native.Nat.{ℕ, suc, ◌+◌, ◌*◌, ◌/◌, ◌%◌, ◌≤◌, ◌<◌}
use native.Mathlib.Nat.{mul-le-mul_right}
use native.Mathlib.Omega.{arith}
use lib.Dec.{eqb}
use lib.ListN.{length}
use Rattle.basics.proofs.Sums.{sum_eq}
use Rattle.rules.specs.declared.Target.{Target}
use Rattle.tight.specs.declared.Sender.{Sender}
use Rattle.tight_rows.specs.Room.{words_of, Leaves, mask_at, units_at, cell_at, slot_words}
use Rattle.tight_rows.specs.Rows.{replaced, part_at, left_at, if}
use Rattle.tight.specs.Selecting.{chosen, Selects}
use Rattle.tight.specs.Splitting.{can_lose, Shared}
use Rattle.tight.specs.Grouping.{UnitsStaged}
use Rattle.tight.specs.Accessed.{loses, left_in, sender_of, Sendable}
use Rattle.tight_rows.specs.Grid.{Grid, grid_of}
use Rattle.tight.specs.Passing.{shares_of}
use Rattle.tight_rows.proofs.Writing.{is_within_lem, not_within, row_before}

module _ (N : ℕ) (x : Target) (K W a e : ℕ) (xs : List ℕ) where
  -- the grid of before, and what is sent of it
  abbrev g : Grid
  g = grid_of K W a (words_of xs)

  abbrev s : Sender
  s = sender_of K W a e (grid_of K W a (words_of xs))

  -- what chooses cells is written behind the start of the stage
  pub chosen_before : e + 6 * suc W ≤ length xs → (zs : List ℕ) → Selects N x (a + 4 + 2 * K) (a + 4 + 2 * K + W) s.lose s.keep s.all s.width xs zs
      → (i : ℕ) → i < e → words_of zs i ≡ words_of xs i
  chosen_before end zs selects i l = selects.beside i (omega arith) (inl (omega arith)) (inl (omega arith)) (inl (omega arith))

  module _ (few : g.count ≤ K) (narrow : g.width ≤ W) (slot : a + slot_words K W ≤ e) (end : e + 6 * suc W ≤ length xs) (zs cs ds ys : List ℕ)
      (selects : Selects N x (a + 4 + 2 * K) (a + 4 + 2 * K + W) s.lose s.keep s.all s.width xs zs) (stages : UnitsStaged W e x s zs cs)
      (clears : Leaves (λ w. replaced s.rest s.width (λ j. 0) w) cs ds) (shares : Shared N x (shares_of s) s.count ds ys) where
    -- before the stage nothing changes until rows are split
    lower : (i : ℕ) → i < e → words_of ds i ≡ words_of xs i
    lower i l =
        clears.word i (omega (arith, stages.long, selects.long)) ∙ rw (not_within s.rest s.width i (inl (omega arith))) refl
        ∙ stages.beside i (omega (arith, selects.long)) (inl l) ∙ chosen_before end zs selects i l

    -- nor in the rows that choose cells
    upper : (i : ℕ) → e + 2 * suc W ≤ i → i < s.rest → words_of ds i ≡ words_of zs i
    upper i l m =
        clears.word i (omega (arith, stages.long, selects.long)) ∙ rw (not_within s.rest s.width i (inl m)) refl
        ∙ stages.beside i (omega (arith, selects.long)) (inr l)

    lose_is : (j : ℕ) → j < g.width → words_of ds (s.lose + j) ≡ chosen (loses N x g j)
    lose_is j l = upper (s.lose + j) (omega arith) (omega arith) ∙ selects.losing j l

    rows_end_lem : g.count * W ≤ K * W
    rows_end_lem = go g.count few
      where
        go : (n : ℕ) → n ≤ K → n * W ≤ K * W
        go n l = mul-le-mul_right W l

    -- what is beside the rows that are split
    beside : (i : ℕ) → i < e + 6 * suc W → (i < s.rows) ⊎ (s.rows + g.count * W ≤ i) → (i < s.rest) → words_of ys i ≡ words_of ds i
    beside i l o m = shares.beside i (omega (arith, clears.long, stages.long, selects.long)) o (inl m)

    -- the words before the cells, and the units of the stage
    pub slot_kept : (i : ℕ) → i < s.rows → words_of ys i ≡ words_of xs i
    slot_kept i l = beside i (omega arith) (inl l) (omega arith) ∙ lower i (omega arith)

    pub stage_kept : (i : ℕ) → e ≤ i → i < e + 2 * suc W → words_of ys i ≡ words_of cs i
    stage_kept i l m =
        beside i (omega arith) (inr (omega (arith, rows_end_lem))) (omega arith) ∙ clears.word i (omega (arith, stages.long, selects.long))
        ∙ rw (not_within s.rest s.width i (inl (omega arith))) refl

    cell_place : (k j : ℕ) → k < g.count → j < g.width → cell_at K W a k j < e
    cell_place k j l m = omega (arith, row_before W k g.count l, rows_end_lem)

    mask_is : (k : ℕ) → k < g.count → words_of ds (mask_at a k) ≡ g.mask k
    mask_is k l = lower (mask_at a k) (omega arith)

    -- where a cell evicts, its part of one way
    part_is : (k j : ℕ) → k < g.count → j < g.width → part_at N (cell_at K W a k j) (s.lose + j) (words_of ds) ≡ cond (loses N x g j) (g.cell k j / N) (g.cell k j)
    part_is k j l m = rw (lose_is j m, lower (cell_at K W a k j) (cell_place k j l m)) (go (loses N x g j))
      where
        go : (b : Bool) → cond (eqb (chosen b) 0) (g.cell k j) (g.cell k j / N) ≡ cond b (g.cell k j / N) (g.cell k j)
        go true = refl
        go false = refl

    left_is : (k j : ℕ) → k < g.count → j < g.width → left_at N (cell_at K W a k j) (s.lose + j) (words_of ds) ≡ if (loses N x g j) (g.cell k j % N)
    left_is k j l m = rw (lose_is j m, lower (cell_at K W a k j) (cell_place k j l m)) (go (loses N x g j))
      where
        go : (b : Bool) → cond (eqb (chosen b) 0) 0 (g.cell k j % N) ≡ if b (g.cell k j % N)
        go true = refl
        go false = refl

    cleared : (j : ℕ) → j < g.width → words_of ds (s.rest + j) ≡ 0
    cleared j l = clears.word (s.rest + j) (omega (arith, stages.long, selects.long)) ∙ rw (is_within_lem s.rest s.width (s.rest + j) (omega arith) (omega arith)) refl

    pub rows_ready : Sendable N x g s (words_of ys)
    rows_ready =
        record {
          count = refl;
          width = refl;
          mask = λ k l. beside (mask_at a k) (omega arith) (inl (omega arith)) (omega arith) ∙ mask_is k l;
          units = λ k l. beside (units_at K a k) (omega arith) (inl (omega arith)) (omega arith) ∙ lower (units_at K a k) (omega arith);
          cell = λ k j l m. shares.cells k j l m
              ∙ ap₂ (λ (b : Bool) (u : ℕ). cond b u (words_of ds (cell_at K W a k j))) (ap (can_lose x) (mask_is k l)) (part_is k j l m)
              ∙ ap (λ (u : ℕ). cond (can_lose x (g.mask k)) (cond (loses N x g j) (g.cell k j / N) (g.cell k j)) u) (lower (cell_at K W a k j) (cell_place k j l m));
          lose = λ j l. beside (s.lose + j) (omega arith) (inr (omega (arith, rows_end_lem))) (omega arith) ∙ lose_is j l;
          keep = λ j l. beside (s.keep + j) (omega arith) (inr (omega (arith, rows_end_lem))) (omega arith) ∙ upper (s.keep + j) (omega arith) (omega arith) ∙ selects.keeping j l;
          all = λ j l. beside (s.all + j) (omega arith) (inr (omega (arith, rows_end_lem))) (omega arith) ∙ upper (s.all + j) (omega arith) (omega arith) ∙ selects.both j l;
          rest = λ j l. shares.left j l
              ∙ ap₂ ◌+◌ (cleared j l)
              (sum_eq g.count _ _ (λ k m. ap₂ (λ (b : Bool) (u : ℕ). if b u) (ap (can_lose x) (mask_is k m)) (left_is k j m l)))
              ∙ nothing (left_in N x g j);
        }
      where
        nothing : (n : ℕ) → 0 + n ≡ n
        nothing n = omega arith
