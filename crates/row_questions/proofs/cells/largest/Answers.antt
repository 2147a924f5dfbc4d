-- `largest` meets its contract.
use native.Mathlib.Nat.{zero-max}
use native.Mathlib.Numerals.{add-one}
use borrow.Author.Rules.{rules}
use Rattle.row_questions.proofs.Standing.{last_next, last_end}
use Rattle.row_questions.proofs.cells.largest.Goals as goal

pub loop-i-init : goal.loop-i-init
loop-i-init c = (search rules, zero-max _)

pub loop-i-preserved : goal.loop-i-preserved
loop-i-preserved c =
    let l = c.loop-i in
    let next = last_next c.args.row.now l.i l.last _ _ l.invariant.1 c.loop-i-test.true l.invariant.0 c.last_of-last.ensures in
    (rw (add-one l.i) next.0, rw (add-one l.i) next.1)

pub returns : goal.returns
returns c = let l = c.loop-i in last_end c.args.row.now l.i l.last _ l.invariant.1 c.loop-i-test.false
