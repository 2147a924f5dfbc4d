-- The lines of a curve, put one by one from the units at each miss count: that no number in them wraps, and what is left to be put after some of them.
use mathlib.Core.Path.{◌≡◌, ap, ◌∙◌}
use mathlib.Core.List.{List}
use Prim.Native.Nat.{ℕ, ◌+◌, ◌-◌, ◌*◌, ◌≤◌, ◌<◌}
use native.Mathlib.Nat.{le_of_lt, mul-le-mul_right}
use native.Mathlib.Numerals.{add-one}
use native.Mathlib.Omega.{arith}
use lib.ListN.{length, get_or, drop}
use Rattle.basics.proofs.Lists.{list_next, list_end}
use Rattle.rules.specs.Units.{whole}
use Rattle.writing.specs.Put.{Page, with_bytes, Put}
use Rattle.writing.proofs.Putting.{Leaves, leaves_less, leaves_none}
use Rattle.lines.specs.Lines.{count_line}
use Rattle.lines.specs.Counts.{count_lines}

pub number_fits : (first step m n : ℕ) → m < n → first + n * step ≤ 18446744073709551615 → first + m * step ≤ 18446744073709551615
number_fits first step m n l h = omega (arith, h, mul-le-mul_right step (le_of_lt l))

-- their lines are left to be put
module _ (first step : ℕ) (counts : List ℕ) (m left e at : ℕ) (o o₁ : List ℕ)
    (to-put : Leaves (count_lines first step m left (drop m counts)) e o₁ (count_lines first step 0 whole counts) at o) where
  next_line : m < length counts → (e₂ : ℕ) (o₂ : List ℕ) → Put (count_line (first + m * step) (get_or counts m 0) (left - get_or counts m 0)) e e₂ o₁ o₂
      → Leaves (count_lines first step (m + 1) (left - get_or counts m 0) (drop (m + 1) counts)) e₂ o₂ (count_lines first step 0 whole counts) at o
  unfolding count_lines
  next_line more e₂ o₂ next =
      let u = get_or counts m 0 in
      let page : Page = record { end = e₂; room = o₂ } in
      ap (λ (k : ℕ). with_bytes (count_lines first step k (left - u) (drop (m + 1) counts)) page) (add-one m)
      ∙ leaves_less _ _ _ e at e₂ o o₁ o₂ (list_next (λ us. with_bytes (count_lines first step m left us) (record { end = e; room = o₁ })) counts m _ to-put 0 more) next

  -- v is what is left of `left` behind the count at m
  pub lines_less : m < length counts → (v : ℕ) → v ≡ left - get_or counts m 0 → (e₂ : ℕ) (o₂ : List ℕ) → Put (count_line (first + m * step) (get_or counts m 0) v) e e₂ o₁ o₂
      → Leaves (count_lines first step (m + 1) v (drop (m + 1) counts)) e₂ o₂ (count_lines first step 0 whole counts) at o
  lines_less more v is e₂ o₂ next = rw is (next_line more e₂ o₂ (rw is at next))

  pub lines_all : length counts ≤ m → Put (count_lines first step 0 whole counts) at e o o₁
  unfolding count_lines
  lines_all none = leaves_none _ _ _ _ _ (list_end (λ us. with_bytes (count_lines first step m left us) (record { end = e; room = o₁ })) counts m _ to-put none)
