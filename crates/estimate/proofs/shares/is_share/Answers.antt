-- `is_share` compares number by number, until one differs.
use mathlib.Core.Path.{◌≡◌, refl, sym, ap, ◌∙◌}
use mathlib.Core.Bool.{Bool}
use mathlib.Core.List.{List}
use Prim.Native.Nat.{ℕ, ◌+◌, ◌*◌, ◌≤◌}
use lib.ListN.{length, get_or, drop}
use borrow.Author.Tests.{eq-eqb, ne_eqb}
use Rattle.rules.specs.declared.State.{State}
use Rattle.rules.specs.Table.{order, state_at}
use Rattle.states.proofs.Same.{mask_apart, misses_apart, filled_same}
use Rattle.words.specs.Tables.{table_of}
use Rattle.estimate.specs.Placing.{is_same}
use Rattle.estimate.proofs.Laying.{words_at, scratch_row}
use Rattle.estimate.proofs.shares.is_share.Goals as goal

-- what the words of the state say, the state says
there : (s : State) (ws : List ℕ) (at : ℕ) (r : Bool) → 20480 + at * 5 + 5 ≤ length ws → r ≡ is_same (order s (words_at ws (20480 + at * 5))) → r ≡ is_same (order s (state_at (drop 4096 (table_of ws)) at))
there s ws at r l h = h ∙ ap (λ (t : State). is_same (order s t)) (sym (scratch_row ws at l))

pub returns-then-s-work : goal.returns-then-s-work
returns-then-s-work c = let a = c.args in
    there a.s a.work.now a.at _ c.requires (mask_apart a.s (words_at a.work.now (20480 + a.at * 5)) c.if-s-work.true)

pub returns-then-s-work-2 : goal.returns-then-s-work-2
returns-then-s-work-2 c = let a = c.args in
    there a.s a.work.now a.at _ c.requires (misses_apart a.s (words_at a.work.now (20480 + a.at * 5)) c.if-s-work.false c.if-s-work-2.true)

pub returns-then-filled-work : goal.returns-then-filled-work
returns-then-filled-work c = let a = c.args in let ws = a.work.now in
    there a.s ws a.at _ c.requires
    (filled_same a.s (words_at ws (20480 + a.at * 5)) c.if-s-work.false c.if-s-work-2.false _ (rw (ne_eqb a.s.filled.front (get_or ws (20480 + a.at * 5 + 2) 0) c.if-filled-work.true) refl))

pub returns : goal.returns
returns c = let a = c.args in let ws = a.work.now in
    there a.s ws a.at _ c.requires
    (filled_same a.s (words_at ws (20480 + a.at * 5)) c.if-s-work.false c.if-s-work-2.false _ (rw (eq-eqb a.s.filled.front (get_or ws (20480 + a.at * 5 + 2) 0) c.if-filled-work.false) refl))
