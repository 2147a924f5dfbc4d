-- A row put into a room: five words are written, and any other room stays as it is.
use mathlib.Core.Path.{◌≡◌, refl, sym, ◌∙◌}
use mathlib.Core.Logic.{◌≢◌}
use mathlib.Core.List.{List, [], ◌∷◌}
use Prim.Native.Nat.{ℕ}
use native.Mathlib.Omega.{arith}
use borrow.Author.Tests.{eq-eqb, ne_eqb}
use lib.ListN.{length, set}
use Rattle.night_rows.specs.declared.Row.{Row}
use Rattle.night_rows.specs.Rows.{row_words, row_put}

row_set : (ws : List ℕ) (r : Row) → length ws ≡ 5
    → set (set (set (set (set ws 0 r.refusal) 1 r.states) 2 r.aside) 3 r.longest) 4 r.budget ≡ row_words r
row_set [] r h = absurd (omega (arith, h))
row_set (a ∷ []) r h = absurd (omega (arith, h))
row_set (a ∷ b ∷ []) r h = absurd (omega (arith, h))
row_set (a ∷ b ∷ c ∷ []) r h = absurd (omega (arith, h))
row_set (a ∷ b ∷ c ∷ d ∷ []) r h = absurd (omega (arith, h))
row_set (a ∷ b ∷ c ∷ d ∷ e ∷ []) r h = refl
row_set (a ∷ b ∷ c ∷ d ∷ e ∷ f ∷ ws) r h = absurd (omega (arith, h))

module _ (ws : List ℕ) (r : Row) where
  pub five_put : length ws ≡ 5 → row_put r ws ≡ row_words r
  unfolding row_put
  five_put h = rw (eq-eqb (length ws) 5 h)

  pub row_put_lem : length ws ≡ 5
      → set (set (set (set (set ws 0 r.refusal) 1 r.states) 2 r.aside) 3 r.longest) 4 r.budget ≡ row_put r ws
  row_put_lem h = row_set ws r h ∙ sym (five_put h)

  pub not_put : length ws ≢ 5 → ws ≡ row_put r ws
  unfolding row_put
  not_put h = rw (ne_eqb (length ws) 5 h)
