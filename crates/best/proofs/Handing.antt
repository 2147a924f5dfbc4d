-- The finished table, handed over: the words of a slot's table, carried into a room of zeros, are the table with zeros behind it.
use mathlib.Core.Path.{◌≡◌, refl, sym, ap, ap₂, ◌∙◌}
use mathlib.Core.List.{List, [], ◌∷◌, ◌++◌, append_assoc}
use Prim.Native.Nat.{ℕ, suc, ◌+◌, ◌-◌, ◌*◌, ◌≤◌, ◌<◌}
use native.Mathlib.Numerals.{add-one}
use native.Mathlib.Omega.{arith}
use lib.ListN.{length, take, drop, replicate, length-drop}
use lib.Seq.{drop-drop, take-suc, length-take-le}
use Rattle.rules.specs.declared.BestState.{BestState}
use Rattle.words.specs.BestTables.{table_of, words_of, stored}
use Rattle.words.proofs.BestTables.{fits_table, stored_behind, words_append}
use Rattle.best.specs.Tables.{no_state, state_at}
use Rattle.best.specs.Rooms.{filled, slot_of, table_in}
use Rattle.best.specs.Call.{written}
use Rattle.rules.specs.Best.{listing}
use Rattle.tables.proofs.Nodes.{counted, table_long}
use Rattle.words.proofs.Handing.{zeros_rest}

-- the states are carried one after the other; X are those that are, rs the room before
pub carry_start : (X : List BestState) (rs : List ℕ) → rs ≡ words_of (take 0 X) ++ drop (0 * 5) rs
unfolding words_of
carry_start X rs = refl

pub carry_turn : (X : List BestState) (rs us us' : List ℕ) (i : ℕ) (s : BestState) → i < length X → suc i * 5 ≤ length rs
    → us ≡ words_of (take i X) ++ drop (i * 5) rs → s ≡ state_at X i → us' ≡ stored us i s → us' ≡ words_of (take (i + 1) X) ++ drop ((i + 1) * 5) rs
carry_turn X rs us us' i s l room p e q =
    q ∙ ap₂ (λ (vs : List ℕ) (k : ℕ). stored vs k s) p (sym (length-take-le i X (omega arith)))
    ∙ stored_behind (take i X) (drop (i * 5) rs) s (omega (arith, length-drop (i * 5) rs))
    ∙ sym (append_assoc (words_of (take i X)) (words_of (s ∷ [])) (drop 5 (drop (i * 5) rs)))
    ∙ ap₂ (λ (vs us : List ℕ). vs ++ us) (sym (words_append (take i X) (s ∷ [])) ∙ ap words_of next) (drop-drop 5 (i * 5) rs ∙ ap (λ (k : ℕ). drop k rs) further)
  where
    next : take i X ++ (s ∷ []) ≡ take (i + 1) X
    next = rw (add-one i, e) (sym (take-suc X i no_state l))

    further : i * 5 + 5 ≡ (i + 1) * 5
    further = omega arith

-- the table in a slot, handed over
module _ (last m : ℕ) (ws : List ℕ) (l : last < 64) (long : 25920 ≤ length ws) (count : m ≡ filled (slot_of last (table_of ws))) where
  pub handed_over_lem : (rs zs us : List ℕ) → m * 5 ≤ length rs → zs ≡ replicate (length rs) 0 → us ≡ words_of (take m (drop (last * 64) (table_of ws))) ++ drop (m * 5) zs
      → us ≡ written (table_in last (table_of ws)) (length rs)
  handed_over_lem rs zs us room z q =
      q ∙ ap₂ (λ (us vs : List ℕ). us ++ vs) (ap words_of (counted listing last m (table_of ws) count))
      (ap (λ (W : List ℕ). drop (m * 5) W) z ∙ zeros_rest (length rs) (m * 5) room ∙ ap (λ (k : ℕ). replicate (length rs - k * 5) 0) (table_long listing last m (table_of ws) count (omega (arith, fits_table ws 5184 long))))
