-- `is_whole` meets its contract.
use native.Mathlib.Omega.{arith}
use Rattle.any_table.proofs.Fitting.{whole_next, whole_passed, whole_end}
use Rattle.any_table.proofs.is_whole.Goals as goal

pub returns-then-left-u : goal.returns-then-left-u
returns-then-left-u g c =
    let count = g.met.K.Kind.fifths c.args.words.now in
    whole_passed g.K.Kind.listing _ _ count _ _ c.loop-i.invariant.0 c.loop-i.invariant.1 c.loop-i-test.true _ c.state_at.ensures _ c.units-u.ensures c.if-left-u.true

pub loop-i-preserved : goal.loop-i-preserved
loop-i-preserved g c =
    let count = g.met.K.Kind.fifths c.args.words.now in
    let next = whole_next g.K.Kind.listing _ _ count _ _ c.loop-i.invariant.0 c.loop-i.invariant.1 c.loop-i-test.true _ c.state_at.ensures _ c.units-u.ensures in
    (omega (arith, c.loop-i.invariant.0), omega (arith, next, c.if-left-u.false))

pub returns : goal.returns
returns g c =
    let count = g.met.K.Kind.fifths c.args.words.now in
    whole_end g.K.Kind.listing _ _ count _ _ c.loop-i.invariant.0 c.loop-i.invariant.1 c.loop-i-test.false
