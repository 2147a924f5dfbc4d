-- `is_behind` reads the numbers of the state one by one, until one differs.
use mathlib.Core.Path.{◌≡◌, sym, ap, ◌∙◌}
use mathlib.Core.Bool.{Bool}
use mathlib.Core.List.{List}
use Prim.Native.Nat.{ℕ, ◌+◌, ◌*◌, ◌≤◌}
use lib.ListN.{length}
use Rattle.rules.specs.declared.State.{State}
use Rattle.rules.specs.Table.{order, no_state, state_at}
use Rattle.words.specs.Tables.{table_of}
use Rattle.words.proofs.Tables.{row_of, row_at}
use Rattle.estimate.specs.Placing.{is_after}
use Rattle.estimate.proofs.Deciding.{by_mask, by_misses, by_front, by_back}
use Rattle.estimate.proofs.placing.is_behind.Goals as goal

-- what the words of the state say, the state says
there : (s : State) (ws : List ℕ) (at : ℕ) (r : Bool) → at * 5 + 5 ≤ length ws → r ≡ is_after (order s (row_of ws at)) → r ≡ is_after (order s (state_at (table_of ws) at))
there s ws at r l h = h ∙ ap (λ (t : State). is_after (order s t)) (sym (row_at ws at no_state l))

pub returns-then-mask-s : goal.returns-then-mask-s
returns-then-mask-s c = let a = c.args in let w = a.words.now in
    there a.s w a.at _ c.requires (by_mask a.s (row_of w a.at) c.if-mask-s.true)

pub returns-then-misses-s : goal.returns-then-misses-s
returns-then-misses-s c = let a = c.args in let w = a.words.now in
    there a.s w a.at _ c.requires (by_misses a.s (row_of w a.at) c.if-mask-s.false c.if-misses-s.true)

pub returns-then-front-f : goal.returns-then-front-f
returns-then-front-f c = let a = c.args in let w = a.words.now in
    there a.s w a.at _ c.requires (by_front a.s (row_of w a.at) c.if-mask-s.false c.if-misses-s.false c.if-front-f.true)

pub returns : goal.returns
returns c = let a = c.args in let w = a.words.now in
    there a.s w a.at _ c.requires (by_back a.s (row_of w a.at) c.if-mask-s.false c.if-misses-s.false c.if-front-f.false)
