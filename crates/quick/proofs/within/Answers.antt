-- `within` meets its contract.
use mathlib.Core.Path.{sym}
use native.Mathlib.Omega.{arith}
use Rattle.rules.proofs.Within.{beyond_yes}
use Rattle.quick.proofs.Downwards.{passed, none_passed}
use Rattle.quick.proofs.within.Goals as goal

pub returns-then-spread-budget : goal.returns-then-spread-budget
returns-then-spread-budget c = sym (beyond_yes _ _ _ (omega arith))

pub returns-then-left-units : goal.returns-then-left-units
returns-then-left-units c =
    let l = c.loop-at in
    passed _ _ l.at l.left l.invariant.1 (omega arith) c.args.budget (omega arith) c.if-left-units.true

pub returns : goal.returns
returns c = let l = c.loop-at in none_passed _ _ l.at l.left l.invariant.1 c.args.budget (omega arith)
