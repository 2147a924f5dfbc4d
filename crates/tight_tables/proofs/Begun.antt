-- The first table in a slot: words that say so are a neat slot that means it, and those that `start_slot` writes do.
use mathlib.Core.Path.{◌≡◌, refl, ap, ap₂, ◌∙◌}
use mathlib.Core.Logic.{◌⊎◌, inl, inr, ⊎_elim, ◌≢◌}
use mathlib.Core.List.{List}
use Prim.Native.Nat.{ℕ, ◌+◌, ◌*◌, ◌≤◌, ◌<◌}
use native.Mathlib.Nat.{mul-le-mul_right}
use native.Mathlib.Omega.{arith}
use lib.ListN.{length, set, length-set}
use lib.Seq.{get_or-set_same, get_or-set_other}
use Rattle.rules.specs.declared.Filled.{Filled}
use Rattle.rules.specs.declared.State.{State}
use Rattle.rules.specs.Units.{whole}
use Rattle.rules.specs.Table.{begin}
use Rattle.tight_rules.specs.Rows.{Rows, begun}
use Rattle.tight_rows.specs.Room.{Words, words_of, Leaves, count_at, base_at, width_at, lost_at, mask_at, units_at, front_at, back_at, cell_at, slot_words}
use Rattle.tight_rows.specs.Rows.{replaced}
use Rattle.tight_rows.specs.Grid.{Grid, grid_of, row_to, table_to, table_of, rows_of, Neat}
use Rattle.tight_tables.specs.Begun.{Begun}
use Rattle.tight_rows.proofs.Writing.{is_within_lem, as_before}

-- ---- the words of the first table

-- rows of which nothing is set aside
abbrev rows_with : List State → ℕ → Rows
rows_with T l = record { kept = record { table = T; aside = 0 }; lost = l }

module _ (K W a : ℕ) (F : Filled) (w : Words) (contents : 1 ≤ K) (cells : 1 ≤ W) (count : w (count_at a) ≡ 1) (base : w (base_at a) ≡ 0) (width : w (width_at a) ≡ 1)
    (lost : w (lost_at a) ≡ 0) (mask : w (mask_at a 0) ≡ 0) (units : w (units_at K a 0) ≡ whole) (front : w (front_at K a 0) ≡ F.front) (back : w (back_at K W a 0) ≡ F.back)
    (first : w (cell_at K W a 0 0) ≡ whole) (others : (j : ℕ) → 1 ≤ j → j < W → w (cell_at K W a 0 j) ≡ 0) where
  abbrev g : Grid
  g = grid_of K W a w

  begun_neat : Neat K W g
  begun_neat =
      record {
        few = omega (arith, count);
        narrow = omega (arith, width);
        rises = λ i k l m. absurd (omega (arith, count));
        summed = λ k l. let only : k ≡ 0 = omega (arith, count) in rw (only, width) (omega (arith, units, first));
        some = λ k l. let only : k ≡ 0 = omega (arith, count) in rw only (omega (arith, units));
        beyond = λ k j l m n. let only : k ≡ 0 = omega (arith, count) in rw only (others j (omega (arith, width)) n);
      }

  begun_table : table_of g ≡ begin F
  unfolding table_of table_to row_to
  begun_table = ap (table_to g) count ∙ ap (row_to g 0) width ∙ rw (mask, base, front, back, first) refl

  begun_means : rows_of 0 g ≡ begun F
  begun_means = ap₂ rows_with begun_table lost

-- ---- what is written

-- the slot up to the end of its first row
abbrev first_words : ℕ → ℕ → ℕ
first_words K W = 4 + 2 * K + 3 * W

pub first_inside : (K W a n : ℕ) → 1 ≤ K → a + slot_words K W ≤ n → a + (4 + 2 * K + 3 * W) ≤ n
first_inside K W a n some l = let row : 1 * W ≤ K * W = mul-le-mul_right W some in omega (arith, row)

-- a word beside the one that is written
kept : (ws : List ℕ) (q x p : ℕ) → p ≢ q → words_of (set ws q x) p ≡ words_of ws p
kept ws q x p d = get_or-set_other ws q p x 0 d

module _ (K W a : ℕ) (F : Filled) (xs zs : List ℕ) (contents : 1 ≤ K) (cells : 1 ≤ W) (inside : a + slot_words K W ≤ length xs)
    (clear : Leaves (λ w. replaced a (4 + 2 * K + 3 * W) (λ j. 0) w) xs zs) where
  abbrev one : List ℕ
  one = set zs a 1

  abbrev two : List ℕ
  two = set one (a + 2) 1

  abbrev three : List ℕ
  three = set two (a + 4 + K) whole

  abbrev four : List ℕ
  four = set three (a + 4 + 2 * K) F.front

  abbrev five : List ℕ
  five = set four (a + 4 + 2 * K + W) F.back

  abbrev six : List ℕ
  six = set five (a + 4 + 2 * K + 2 * W) whole

  long_six : length six ≡ length xs
  long_six = simp length-set clear.long

  -- beside all six
  elsewhere : (p : ℕ) → p ≢ a → p ≢ a + 2 → p ≢ a + 4 + K → p ≢ a + 4 + 2 * K → p ≢ a + 4 + 2 * K + W → p ≢ a + 4 + 2 * K + 2 * W → words_of six p ≡ words_of zs p
  elsewhere p h i j k l m = kept five _ _ p m ∙ kept four _ _ p l ∙ kept three _ _ p k ∙ kept two _ _ p j ∙ kept one _ _ p i ∙ kept zs _ _ p h

  -- and there 0
  zero_there : (p : ℕ) → a ≤ p → p < a + first_words K W → p ≢ a → p ≢ a + 2 → p ≢ a + 4 + K → p ≢ a + 4 + 2 * K → p ≢ a + 4 + 2 * K + W → p ≢ a + 4 + 2 * K + 2 * W → words_of six p ≡ 0
  zero_there p b e h i j k l m =
      elsewhere p h i j k l m ∙ clear.word p (omega (arith, first_inside K W a (length xs) contents inside)) ∙ rw (is_within_lem a (first_words K W) p b e) refl

  written_count : words_of six (count_at a) ≡ 1
  written_count =
      kept five _ _ a (λ p. absurd (omega arith)) ∙ kept four _ _ a (λ p. absurd (omega arith)) ∙ kept three _ _ a (λ p. absurd (omega arith)) ∙ kept two _ _ a (λ p. absurd (omega arith))
      ∙ kept one _ _ a (λ p. absurd (omega arith)) ∙ get_or-set_same zs a 1 0 (omega (arith, clear.long, first_inside K W a (length xs) contents inside))

  written_width : words_of six (width_at a) ≡ 1
  written_width =
      kept five _ _ (a + 2) (λ p. absurd (omega arith)) ∙ kept four _ _ (a + 2) (λ p. absurd (omega arith)) ∙ kept three _ _ (a + 2) (λ p. absurd (omega arith)) ∙ kept two _ _ (a + 2) (λ p. absurd (omega arith))
      ∙ get_or-set_same one (a + 2) 1 0 (simp length-set (omega (arith, clear.long, first_inside K W a (length xs) contents inside)))

  written_units : words_of six (units_at K a 0) ≡ whole
  written_units =
      let here : units_at K a 0 ≡ a + 4 + K = omega arith in
      rw here
      (kept five _ _ (a + 4 + K) (λ p. absurd (omega arith)) ∙ kept four _ _ (a + 4 + K) (λ p. absurd (omega arith)) ∙ kept three _ _ (a + 4 + K) (λ p. absurd (omega arith))
      ∙ get_or-set_same two (a + 4 + K) whole 0 (simp length-set (omega (arith, clear.long, first_inside K W a (length xs) contents inside))))

  written_front : words_of six (front_at K a 0) ≡ F.front
  written_front =
      let here : front_at K a 0 ≡ a + 4 + 2 * K = omega arith in
      rw here
      (kept five _ _ (a + 4 + 2 * K) (λ p. absurd (omega arith)) ∙ kept four _ _ (a + 4 + 2 * K) (λ p. absurd (omega arith))
      ∙ get_or-set_same three (a + 4 + 2 * K) F.front 0 (simp length-set (omega (arith, clear.long, first_inside K W a (length xs) contents inside))))

  written_back : words_of six (back_at K W a 0) ≡ F.back
  written_back =
      let here : back_at K W a 0 ≡ a + 4 + 2 * K + W = omega arith in
      rw here
      (kept five _ _ (a + 4 + 2 * K + W) (λ p. absurd (omega arith))
      ∙ get_or-set_same four (a + 4 + 2 * K + W) F.back 0 (simp length-set (omega (arith, clear.long, first_inside K W a (length xs) contents inside))))

  written_first : words_of six (cell_at K W a 0 0) ≡ whole
  written_first =
      let here : cell_at K W a 0 0 ≡ a + 4 + 2 * K + 2 * W = omega arith in
      rw here (get_or-set_same five (a + 4 + 2 * K + 2 * W) whole 0 (simp length-set (omega (arith, clear.long, first_inside K W a (length xs) contents inside))))

  written_others : (j : ℕ) → 1 ≤ j → j < W → words_of six (cell_at K W a 0 j) ≡ 0
  written_others j l m =
      zero_there (cell_at K W a 0 j) (omega arith) (omega arith) (λ p. absurd (omega arith)) (λ p. absurd (omega arith)) (λ p. absurd (omega arith)) (λ p. absurd (omega arith)) (λ p. absurd (omega arith))
      (λ p. absurd (omega arith))

  written_base : words_of six (base_at a) ≡ 0
  written_base =
      zero_there (a + 1) (omega arith) (omega arith) (λ p. absurd (omega arith)) (λ p. absurd (omega arith)) (λ p. absurd (omega arith)) (λ p. absurd (omega arith)) (λ p. absurd (omega arith)) (λ p. absurd (omega arith))

  written_lost : words_of six (lost_at a) ≡ 0
  written_lost =
      zero_there (a + 3) (omega arith) (omega arith) (λ p. absurd (omega arith)) (λ p. absurd (omega arith)) (λ p. absurd (omega arith)) (λ p. absurd (omega arith)) (λ p. absurd (omega arith)) (λ p. absurd (omega arith))

  written_mask : words_of six (mask_at a 0) ≡ 0
  written_mask =
      zero_there (mask_at a 0) (omega arith) (omega arith) (λ p. absurd (omega arith)) (λ p. absurd (omega arith)) (λ p. absurd (omega arith)) (λ p. absurd (omega arith)) (λ p. absurd (omega arith))
      (λ p. absurd (omega arith))

  written_beside : (p : ℕ) → p < length xs → (p < a) ⊎ (a + slot_words K W ≤ p) → words_of six p ≡ words_of xs p
  written_beside p l o =
      elsewhere p (λ e. out (omega arith) (omega arith)) (λ e. out (omega arith) (omega arith)) (λ e. out (omega arith) (omega arith)) (λ e. out (omega arith) (omega arith)) (λ e. out (omega arith) (omega arith))
      (λ e. out (omega arith) (omega arith))
      ∙ as_before a (λ w j. 0) (first_words K W) xs zs clear p l (⊎_elim (λ b. inl b) (λ b. inr (first_inside K W a p contents b)) o)
    where
      out : a ≤ p → p < a + first_words K W → ⊥
      out b e = ⊎_elim (λ h. absurd (omega arith)) (λ h. absurd (omega (arith, first_inside K W a p contents h))) o

  pub begun_written : Begun K W a F xs six
  begun_written =
      record {
        long = long_six;
        neat = begun_neat K W a F (words_of six) contents cells written_count written_base written_width written_lost written_mask written_units written_front written_back written_first written_others;
        width = written_width;
        means = begun_means K W a F (words_of six) contents cells written_count written_base written_width written_lost written_mask written_units written_front written_back written_first written_others;
        beside = written_beside;
      }
