-- `count_graphs` meets its contract.
use mathlib.Core.Path.{sym, ap, ◌∙◌}
use Prim.Native.Nat.{◌+◌, ◌<◌}
use native.Mathlib.Omega.{arith}
use borrow.Author.Rules.{rules}
use Rattle.curve_numbers.proofs.Places.{ends_later}
use Rattle.night_rows.proofs.Cutting.{counting, count_start, count_ends, count_past, count_full, count_next}
use Rattle.night_rows.proofs.count_graphs.Goals as goal

pub loop-at-init : goal.loop-at-init
loop-at-init c = (search rules, count_start c.args.numbers.now)

pub returns-then-count-eq256 : goal.returns-then-count-eq256
returns-then-count-eq256 c =
    let l = c.loop-at in
    sym (count_full c.args.numbers.now l.at l.count c.loop-at-test.true c.if-count-eq256.true) ∙ l.invariant.1

pub loop-at-smaller : goal.loop-at-smaller
loop-at-smaller c =
    let l = c.loop-at in
    let moved = ends_later 1 c.args.numbers.now l.at c.loop-at-test.true in
    omega (arith, c.end_of-at.ensures, moved, c.loop-at-test.true)

pub loop-at-preserved : goal.loop-at-preserved
loop-at-preserved c =
    let l = c.loop-at in
    let ns = c.args.numbers.now in
    let few : l.count < 256 = omega (arith, l.invariant.0, c.if-count-eq256.false) in
    (omega (arith, few), ap (counting (l.count + 1) ns) c.end_of-at.ensures ∙ sym (count_next ns l.at l.count c.loop-at-test.true few) ∙ l.invariant.1)

pub returns-then-at-numbers : goal.returns-then-at-numbers
returns-then-at-numbers c =
    let l = c.loop-at in
    sym (count_ends c.args.numbers.now l.at l.count c.if-at-numbers.true) ∙ l.invariant.1

pub returns : goal.returns
returns c =
    let l = c.loop-at in
    sym (count_past c.args.numbers.now l.at l.count c.loop-at-test.false c.if-at-numbers.false) ∙ l.invariant.1
