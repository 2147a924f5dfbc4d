-- The filled numbers of a cell's groups and their units, read from the six rows of a stage.
use mathlib.Core.Path.{◌≡◌, ap, ap₂, ◌∙◌}
use mathlib.Core.Bool.{cond, not}
use mathlib.Core.List.{List}
use Prim.Native.Nat.{ℕ, suc, ◌+◌, ◌-◌, ◌*◌, ◌^◌, ◌≤◌, ◌<◌}
use native.Mathlib.Omega.{arith}
use borrow.Author.Tests.{eq-eqb, ne_eqb}
use Rattle.basics.proofs.Sums.{part_most, sum_to, sum_le}
use Rattle.rules.specs.declared.Filled.{Filled}
use Rattle.rules.specs.Filling.{fullest, same_filled}
use Rattle.tight_rows.specs.Room.{Words, words_of}
use Rattle.tight_ends.specs.Stage.{Groups, groups_of}
use Rattle.tight_ends.specs.Ending.{Staging}
use Rattle.tight_ends.specs.Settling.{in_use, filled_in, filled_to, both, settled_filled, unlike, unlike_to}
use Rattle.tight_rows.specs.Grid.{filled_words}
use Rattle.tight_ends.proofs.EndsFound.{staging_part}

module _ (W e j : ℕ) (w : Words) where
  hit_units_lem : w (e + j) ≡ (groups_of W e w).hit_units j
  hit_units_lem = ap w (let z : e + j ≡ e + 0 * suc W + j = omega arith in z)

  missed_units_lem : w (e + j + (W + 1)) ≡ (groups_of W e w).missed_units j
  missed_units_lem = ap w (let z : e + j + (W + 1) ≡ e + 1 * suc W + j = omega arith in z)

  hit_filled : filled_words w (e + j + 2 * (W + 1)) (e + j + 3 * (W + 1)) ≡ (groups_of W e w).hit j
  hit_filled =
      ap₂ (λ (a b : ℕ). record { front = w a; back = w b }) (let z : e + j + 2 * (W + 1) ≡ e + 2 * suc W + j = omega arith in z)
      (let z : e + j + 3 * (W + 1) ≡ e + 3 * suc W + j = omega arith in z)

  missed_filled : filled_words w (e + j + 4 * (W + 1)) (e + j + 5 * (W + 1)) ≡ (groups_of W e w).missed j
  missed_filled =
      ap₂ (λ (a b : ℕ). record { front = w a; back = w b }) (let z : e + j + 4 * (W + 1) ≡ e + 4 * suc W + j = omega arith in z)
      (let z : e + j + 5 * (W + 1) ≡ e + 5 * suc W + j = omega arith in z)

  module _ (F G : Filled) (p : F ≡ filled_words w (e + j + 2 * (W + 1)) (e + j + 3 * (W + 1))) (q : G ≡ filled_words w (e + j + 4 * (W + 1)) (e + j + 5 * (W + 1))) where
    pub filled_in_is : (A B r : Filled) → A ≡ in_use (w (e + j)) F → B ≡ in_use (w (e + j + (W + 1))) G → r ≡ fullest A B → r ≡ filled_in (groups_of W e w) j
    unfolding filled_in
    filled_in_is A B r a b c = c ∙ ap₂ fullest (a ∙ ap₂ in_use hit_units_lem (p ∙ hit_filled)) (b ∙ ap₂ in_use missed_units_lem (q ∙ missed_filled))

    pub unlike_is : (H : Filled) (x y : ℕ) → x ≡ cond (not (same_filled F H)) (w (e + j)) 0 → y ≡ cond (not (same_filled G H)) (w (e + j + (W + 1))) 0 → x + y ≡ unlike (groups_of W e w) j H
    unfolding unlike
    unlike_is H x y a b =
        ap₂ ◌+◌ (a ∙ ap₂ (λ (K : Filled) (u : ℕ). cond (not (same_filled K H)) u 0) (p ∙ hit_filled) hit_units_lem)
        (b ∙ ap₂ (λ (K : Filled) (u : ℕ). cond (not (same_filled K H)) u 0) (q ∙ missed_filled) missed_units_lem)

-- no more than the cell has
pub unlike_most : (h : Groups) (j : ℕ) (F : Filled) → unlike h j F ≤ h.hit_units j + h.missed_units j
unfolding unlike
unlike_most h j F = omega (arith, part_most (not (same_filled (h.hit j) F)) (h.hit_units j), part_most (not (same_filled (h.missed j) F)) (h.missed_units j))

-- one cell more
pub filled_to_next : (h : Groups) (j : ℕ) (F G r : Filled) → F ≡ filled_to h j → G ≡ filled_in h j → r ≡ fullest F G → r ≡ filled_to h (j + 1)
unfolding filled_to
filled_to_next h j F G r p q e = e ∙ ap₂ fullest p q ∙ ap (filled_to h) (let z : suc j ≡ j + 1 = omega arith in z)

-- the first cell, and the others
pub settled_first : (h : Groups) (bot i : ℕ) (r : Filled) → i ≡ 0 → r ≡ filled_to h (bot + 1) → r ≡ settled_filled h bot i
unfolding settled_filled
settled_first h bot i r z e = rw (eq-eqb i 0 z) (e ∙ ap (filled_to h) (let y : bot + 1 ≡ suc bot = omega arith in y))

pub settled_other : (h : Groups) (bot i : ℕ) (r : Filled) → (i ≡ 0 → ⊥) → r ≡ filled_in h (bot + i) → r ≡ settled_filled h bot i
unfolding settled_filled
settled_other h bot i r n e = rw (ne_eqb i 0 n) e

-- ---- units that change, cell by cell

pub unlike_to_next : (h : Groups) (bot j sum u : ℕ) (F : Filled) → sum ≡ unlike_to h bot j → F ≡ settled_filled h bot (j - bot) → u ≡ unlike h j F → sum + u ≡ unlike_to h bot (j + 1)
unfolding unlike_to
unlike_to_next h bot j sum u F p q e = ap₂ ◌+◌ p (e ∙ ap (unlike h j) q) ∙ ap (unlike_to h bot) (let z : suc j ≡ j + 1 = omega arith in z)

pub unlike_to_most : (h : Groups) (bot n : ℕ) → unlike_to h bot n ≤ sum_to n (both h)
unfolding unlike_to
unlike_to_most h bot n = sum_le n _ _ (λ j l. unlike_most h j (settled_filled h bot (j - bot)))

pub unlike_to_fits : (W e bot top j : ℕ) (ws : List ℕ) (x : ℕ) → j < top → Staging W e top ws → x ≡ unlike_to (groups_of W e (words_of ws)) bot (j + 1) → x < 2 ^ 64
unlike_to_fits W e bot top j ws x l s p =
    omega (arith, unlike_to_most (groups_of W e (words_of ws)) bot (j + 1), (staging_part W e (j + 1) top ws (omega arith) s).most)
