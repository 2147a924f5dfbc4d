-- `smallest` meets its contract.
use native.Mathlib.Omega.{arith}
use borrow.Author.Rules.{rules}
use Rattle.words.specs.Tables.{table_of}
use Rattle.questions.proofs.Amounts.{none_yet, largest_serves, none_up_to, halves_meet}
use Rattle.questions.proofs.sums.smallest.Goals as goal

pub loop-low-init : goal.loop-low-init
loop-low-init c =
    let a = c.args in
    (search rules, search rules, largest_serves (table_of a.words.now) a.units _ c.largest-high.ensures, none_yet (table_of a.words.now) a.units)

pub loop-low-preserved-then-units_above-units : goal.loop-low-preserved-then-units_above-units
loop-low-preserved-then-units_above-units c = (omega arith, omega arith, omega (arith, c.units_above.ensures), c.loop-low.invariant.3)

pub loop-low-preserved : goal.loop-low-preserved
loop-low-preserved c =
    let a = c.args in
    (omega arith, c.loop-low.invariant.1, c.loop-low.invariant.2, none_up_to (table_of a.words.now) a.units _ (omega (arith, c.units_above.ensures)))

pub returns : goal.returns
returns c =
    let a = c.args in
    halves_meet (table_of a.words.now) a.units _ _ (omega arith) c.loop-low.invariant.2 c.loop-low.invariant.3
