-- `smallest` meets its contract.
use native.Mathlib.Omega.{arith}
use Rattle.row_questions.proofs.Standing.{stops_here, stops_at_0, goes_on_lem, none_left}
use Rattle.row_questions.proofs.cells.smallest.Goals as goal

pub loop-at-init : goal.loop-at-init
loop-at-init c = none_left c.args.row.now c.args.units

pub returns-then-left-row : goal.returns-then-left-row
returns-then-left-row c =
    let l = c.loop-at in
    stops_here c.args.row.now _ l.left l.at l.invariant c.loop-at-test.true (omega arith) c.if-left-row.true

pub loop-at-preserved : goal.loop-at-preserved
loop-at-preserved c =
    let l = c.loop-at in
    goes_on_lem c.args.row.now _ l.left l.at l.invariant c.loop-at-test.true (omega arith) c.if-left-row.false

pub returns : goal.returns
returns c = let l = c.loop-at in stops_at_0 c.args.row.now _ l.left l.at l.invariant c.loop-at-test.false
