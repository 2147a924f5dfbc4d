-- `guess_share` goes on by as many places as there are misses more than at the place that the run has come to.
use mathlib.Core.Path.{◌≡◌, refl, ap, ◌∙◌}
use mathlib.Core.List.{List}
use Prim.Native.Nat.{ℕ, ◌+◌, ◌*◌, ◌≤◌}
use native.Mathlib.Omega.{arith}
use lib.ListN.{length, get_or, drop}
use borrow.Author.Tests.{lt-ltb}
use Rattle.rules.specs.declared.State.{State}
use Rattle.rules.specs.Table.{state_at}
use Rattle.words.specs.Tables.{table_of}
use Rattle.estimate.proofs.Laying.{scratch_row}
use Rattle.estimate.proofs.shares.guess_share.Goals as goal

-- the misses that are read there
here : (ws : List ℕ) (i : ℕ) → 20480 + i * 5 + 5 ≤ length ws → (state_at (drop 4096 (table_of ws)) i).misses ≡ get_or ws (20481 + i * 5) 0
here ws i l = ap (λ (s : State). s.misses) (scratch_row ws i l) ∙ ap (λ (b : ℕ). get_or ws b 0) next
  where
    next : 20480 + i * 5 + 1 ≡ 20481 + i * 5
    next = omega arith

pub returns-then-here-misses : goal.returns-then-here-misses
returns-then-here-misses c = let a = c.args in let p = c.if-reached.false in
    rw (lt-ltb a.reached.at a.reached.states (omega (arith, p)), here a.work.now a.reached.at (omega (arith, p, c.requires.0))) refl

pub returns : goal.returns
returns c = let a = c.args in let p = c.if-reached.false in
    rw (lt-ltb a.reached.at a.reached.states (omega (arith, p)), here a.work.now a.reached.at (omega (arith, p, c.requires.0))) (omega (arith, c.if-here-misses.false))
