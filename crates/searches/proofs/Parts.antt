-- The five words of a state by themselves are a table of that one state.
use mathlib.Core.Path.{◌≡◌, ap, ◌∙◌}
use mathlib.Core.List.{List}
use Prim.Native.Nat.{ℕ, ◌+◌, ◌-◌, ◌*◌}
use native.Mathlib.Omega.{arith}
use lib.ListN.{take, drop}
use lib.Seq.{get_or-take, get_or-drop}
use Rattle.rules.specs.declared.State.{State}
use Rattle.rules.specs.Table.{no_state, state_at}
use Rattle.words.specs.Tables.{table_of}
use Rattle.words.proofs.Tables.{table_take, table_drop}

pub part_at : (ws : List ℕ) (i : ℕ) → state_at (table_of (take (i * 5 + 5 - i * 5) (drop (i * 5) ws))) 0 ≡ state_at (table_of ws) i
part_at ws i =
    let five : i * 5 + 5 - i * 5 ≡ 5 = omega arith in
    let here : i + 0 ≡ i = omega arith in
    ap (λ (k : ℕ). state_at (table_of (take k (drop (i * 5) ws))) 0) five
    ∙ ap (λ (T : List State). state_at T 0) (table_take (drop (i * 5) ws) 1 ∙ ap (take 1) (table_drop ws i))
    ∙ get_or-take 1 (drop i (table_of ws)) 0 no_state (omega arith)
    ∙ get_or-drop i (table_of ws) 0 no_state
    ∙ ap (state_at (table_of ws)) here
