-- A table sealed: zeros in words are no states, so that words cleared behind a table end it.
use mathlib.Core.Path.{◌≡◌, refl, sym, ap, ap₂, ◌∙◌}
use mathlib.Core.List.{List, ◌∷◌, ◌++◌, append_assoc}
use Prim.Native.Nat.{ℕ, zero, suc, ◌+◌, ◌-◌, ◌*◌, ◌≤◌}
use native.Mathlib.Omega.{arith}
use lib.ListN.{length, take, drop, replicate, length-drop, length-replicate}
use lib.Seq.{paste, length-take-le, drop-drop}
use Rattle.std.proofs.lemmas.List.{take-replicate}
use Rattle.rules.specs.declared.State.{State}
use Rattle.rules.specs.Table.{no_state}
use Rattle.words.specs.Tables.{table_of}
use Rattle.words.proofs.Tables.{fifth, table_take, table_drop, table_append}

no_states : (q : ℕ) → table_of (replicate (q * 5) 0) ≡ replicate q no_state
unfolding table_of
no_states zero = refl
no_states (suc q) = rw (fifth q) (ap (λ (T : List State). no_state ∷ T) (no_states q))

-- us are the words from those of place p + n to those of place p + 64, cleared
pub sealed : (ws us : List ℕ) (p n : ℕ) → n ≤ 64 → (p + 64) * 5 ≤ length ws
    → us ≡ replicate (length (take ((p + 64) * 5 - (p + n) * 5) (drop ((p + n) * 5) ws))) 0
    → table_of (take ((p + n) * 5) ws ++ (us ++ drop ((p + 64) * 5 - (p + n) * 5) (drop ((p + n) * 5) ws))) ≡ paste (table_of ws) (p + n) (replicate 64 no_state) (64 - n)
sealed ws us p n few room e =
    table_append (take ((p + n) * 5) ws) _ (p + n) (length-take-le ((p + n) * 5) ws (omega arith))
    ∙ ap₂ (λ (X Y : List State). X ++ Y) (table_take ws (p + n))
    (table_append us _ (64 - n) (ap length is ∙ length-replicate ((64 - n) * 5) 0)
    ∙ ap₂ (λ (X Y : List State). X ++ Y) (ap table_of is ∙ no_states (64 - n) ∙ same) behind)
    ∙ sym (append_assoc (take (p + n) (table_of ws)) (take (64 - n) (replicate 64 no_state)) (drop (p + n + (64 - n)) (table_of ws)))
  where
    many : (p + 64) * 5 - (p + n) * 5 ≡ (64 - n) * 5
    many = omega arith

    is : us ≡ replicate ((64 - n) * 5) 0
    is =
        e
        ∙ ap (λ (k : ℕ). replicate k 0)
        (length-take-le ((p + 64) * 5 - (p + n) * 5) (drop ((p + n) * 5) ws) (omega (arith, length-drop ((p + n) * 5) ws)) ∙ many)

    same : replicate (64 - n) no_state ≡ take (64 - n) (replicate 64 no_state)
    same = sym (take-replicate (64 - n) 64 no_state (omega arith))

    behind : table_of (drop ((p + 64) * 5 - (p + n) * 5) (drop ((p + n) * 5) ws)) ≡ drop (p + n + (64 - n)) (table_of ws)
    behind =
        let ends : (p + n) * 5 + ((p + 64) * 5 - (p + n) * 5) ≡ (p + n + (64 - n)) * 5 = omega arith in
        ap table_of (drop-drop ((p + 64) * 5 - (p + n) * 5) ((p + n) * 5) ws ∙ ap (λ (k : ℕ). drop k ws) ends) ∙ table_drop ws (p + n + (64 - n))
