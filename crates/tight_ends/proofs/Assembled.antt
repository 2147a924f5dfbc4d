-- The slot after the row ends: rows that were kept (RowsKept) make the grid that the settled table stands for (Settled), and a neat one.
use mathlib.Core.Path.{◌≡◌, refl, sym, ap, ◌∙◌}
use mathlib.Core.List.{List}
use Prim.Native.Nat.{ℕ, ◌+◌, ◌≤◌, ◌<◌}
use native.Mathlib.Omega.{arith}
use borrow.Author.Tests.{le-ltb}
use Rattle.basics.proofs.Sums.{sum_to, sum_eq}
use Rattle.tight_rows.specs.Room.{Words, words_of, count_at, base_at, width_at, mask_at, units_at, cell_at}
use Rattle.tight_rows.specs.Grid.{Grid, grid_of, Neat}
use Rattle.tight_ends.specs.Settling.{gathered_row, Kept}
use Rattle.tight_ends.specs.Keeping.{row_in, KeptTo}
use Rattle.tight_ends.proofs.RowsKept.{gathered_row_lem}

module _ (K W a bot wide o : ℕ) (xs ys : List ℕ) (w : Words) (so : KeptTo K W a bot wide (words_of xs (count_at a)) o xs ys)
    (few : words_of xs (count_at a) ≤ K) (within : bot + wide ≤ W)
    (rises : (i k : ℕ) → i < k → k < words_of xs (count_at a) → words_of xs (mask_at a i) < words_of xs (mask_at a k))
    (count : w (count_at a) ≡ o) (base : w (base_at a) ≡ words_of xs (base_at a) + bot) (width : w (width_at a) ≡ wide)
    (masks : (i : ℕ) → i < o → w (mask_at a i) ≡ words_of ys (mask_at a i))
    (units : (i : ℕ) → i < o → w (units_at K a i) ≡ words_of ys (units_at K a i))
    (cells : (i j : ℕ) → i < o → j < W → w (cell_at K W a i j) ≡ words_of ys (cell_at K W a i j)) where
  abbrev old : Grid
  old = grid_of K W a (words_of xs)

  abbrev new : Grid
  new = grid_of K W a w

  mask_from : (i : ℕ) → i < o → w (mask_at a i) ≡ words_of xs (mask_at a (so.from i))
  mask_from i l = masks i l ∙ so.mask i l

  cell_from : (i j : ℕ) → i < o → j < W → w (cell_at K W a i j) ≡ gathered_row bot wide (row_in K W a (words_of xs) (so.from i)) j
  cell_from i j l m = cells i j l m ∙ so.cells i j l m

  masks_rise : (i k : ℕ) → i < k → k < o → w (mask_at a i) < w (mask_at a k)
  masks_rise i k l m = rw (mask_from i (omega arith), mask_from k m) (rises (so.from i) (so.from k) (so.rises i k l m) (so.before k m))

  pub slot_kept : Kept old new bot
  slot_kept =
      record {
        base = base;
        rises = λ i k l m. masks_rise i k l (omega (arith, count));
        comes = λ k l. let m : k < o = omega (arith, count) in
            record {
              from = so.from k;
              row = so.before k m;
              some = rw width (so.some k m);
              mask = mask_from k m;
              cells = λ i p. cell_from k i m (omega (arith, width)) ∙ gathered_row_lem bot wide (row_in K W a (words_of xs) (so.from k)) i (omega (arith, width));
            };
        stays = λ k l s. let (i, p, e) = so.all k l (rw width at s) in record { to = i; row = omega (arith, count); mask = mask_from i p ∙ ap (λ (x : ℕ). words_of xs (mask_at a x)) e };
      }

  pub slot_neat : Neat K W new
  slot_neat =
      record {
        few = omega (arith, count, so.few);
        narrow = omega (arith, width);
        rises = λ i k l m. masks_rise i k l (omega (arith, count));
        summed = λ k l. let m : k < o = omega (arith, count) in
            units k m ∙ so.units k m
            ∙ sum_eq wide _ _ (λ j p. sym (cell_from k j m (omega arith) ∙ gathered_row_lem bot wide (row_in K W a (words_of xs) (so.from k)) j p))
            ∙ ap (λ (n : ℕ). sum_to n (λ j. w (cell_at K W a k j))) (sym width);
        some = λ k l. let m : k < o = omega (arith, count) in rw (units k m, so.units k m) (so.some k m);
        beyond = λ k j l p q. let m : k < o = omega (arith, count) in cell_from k j m q ∙ rw (le-ltb j wide (omega (arith, width))) refl;
      }
