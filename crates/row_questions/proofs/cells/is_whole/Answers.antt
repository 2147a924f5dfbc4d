-- `is_whole` meets its contract.
use mathlib.Core.Path.{refl}
use native.Mathlib.Numerals.{add-one}
use native.Mathlib.Omega.{arith}
use borrow.Author.Rules.{rules}
use Rattle.row_questions.proofs.Standing.{whole_next, whole_passed, whole_end}
use Rattle.row_questions.proofs.cells.is_whole.Goals as goal

pub loop-units-init : goal.loop-units-init
loop-units-init c = (search rules, refl)

pub returns-then-left-units : goal.returns-then-left-units
returns-then-left-units c =
    let l = c.loop-units in
    whole_passed c.args.row.now l.units-index l.left l.invariant.1 c.loop-units-test.true c.if-left-units.true

pub loop-units-preserved : goal.loop-units-preserved
loop-units-preserved c =
    let l = c.loop-units in
    (omega (arith, l.invariant.0), rw (add-one l.units-index) (whole_next c.args.row.now l.units-index l.left l.invariant.1 c.loop-units-test.true c.if-left-units.false))

pub returns : goal.returns
returns c =
    let l = c.loop-units in
    whole_end c.args.row.now l.units-index l.left l.invariant.1 c.loop-units-test.false l.invariant.0
