-- Zeros behind a table: they are no states, up to the slot's end.
use mathlib.Core.Path.{◌≡◌, refl, sym, ap, ap₂, ◌∙◌}
use mathlib.Core.List.{List, ◌∷◌, ◌++◌, append_assoc}
use Prim.Native.Nat.{ℕ, zero, suc, ◌+◌, ◌-◌, ◌*◌, ◌≤◌}
use native.Mathlib.Omega.{arith}
use lib.ListN.{length, take, drop, replicate, length-drop, length-replicate}
use lib.Seq.{paste, length-take-le, drop-drop}
use Rattle.std.proofs.lemmas.List.{take-replicate}
use Rattle.rules.specs.declared.BestState.{BestState}
use Rattle.best.specs.Tables.{no_state}
use Rattle.words.specs.BestTables.{table_of}
use Rattle.words.proofs.BestTables.{fifth, table_take, table_drop, table_append}

blanks : (k : ℕ) → table_of (replicate (k * 5) 0) ≡ replicate k no_state
unfolding table_of
blanks zero = refl
blanks (suc k) = rw fifth (ap (no_state ∷◌) (blanks k))

-- ys stands for the words from the n-th state at place `at` to the slot's end
pub sealed : (ws : List ℕ) (at n : ℕ) → n ≤ 64 → (at + 64) * 5 ≤ length ws → (ys : List ℕ)
    → ys ≡ replicate (length (take ((at + 64) * 5 - (at + n) * 5) (drop ((at + n) * 5) ws))) 0
    → table_of (take ((at + n) * 5) ws ++ (ys ++ drop ((at + 64) * 5 - (at + n) * 5) (drop ((at + n) * 5) ws)))
    ≡ paste (table_of ws) (at + n) (replicate 64 no_state) (64 - n)
sealed ws at n l h ys e =
    ap₂ (λ (ys : List ℕ) (m : ℕ). table_of (take ((at + n) * 5) ws ++ (ys ++ drop m (drop ((at + n) * 5) ws)))) zeros many
    ∙ table_append (take ((at + n) * 5) ws) _ (at + n) (length-take-le ((at + n) * 5) ws (omega arith))
    ∙ ap₂ (λ (S U : List BestState). S ++ U) (table_take ws (at + n))
    (table_append (replicate ((64 - n) * 5) 0) _ (64 - n) (length-replicate ((64 - n) * 5) 0)
    ∙ ap₂ (λ (S U : List BestState). S ++ U) (blanks (64 - n) ∙ sym (take-replicate (64 - n) 64 no_state (omega arith)))
    (table_drop (drop ((at + n) * 5) ws) (64 - n) ∙ ap (drop (64 - n)) (table_drop ws (at + n)) ∙ drop-drop (64 - n) (at + n) (table_of ws)))
    ∙ sym (append_assoc (take (at + n) (table_of ws)) (take (64 - n) (replicate 64 no_state)) (drop (at + n + (64 - n)) (table_of ws)))
  where
    many : (at + 64) * 5 - (at + n) * 5 ≡ (64 - n) * 5
    many = omega arith

    long : length (take ((at + 64) * 5 - (at + n) * 5) (drop ((at + n) * 5) ws)) ≡ (64 - n) * 5
    long = length-take-le ((at + 64) * 5 - (at + n) * 5) (drop ((at + n) * 5) ws) (omega (arith, length-drop ((at + n) * 5) ws)) ∙ many

    zeros : ys ≡ replicate ((64 - n) * 5) 0
    zeros = e ∙ ap (λ (m : ℕ). replicate {A = ℕ} m 0) long
