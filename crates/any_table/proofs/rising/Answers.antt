-- `rising` meets its contract.
use Rattle.any_table.proofs.Fitting.{rising_next, rising_end}
use Rattle.any_table.proofs.rising.Goals as goal

pub loop-i-preserved : goal.loop-i-preserved
loop-i-preserved g c =
    let count = g.met.K.Kind.fifths c.args.words.now in
    rw c.if-not-stands_before.false at (rising_next g.K.Kind.listing _ _ count _ _ c.loop-i.invariant c.loop-i.auto.i c.loop-i-test.true _ _ c.state_at.ensures c.state_at-in-loop-i.ensures _ c.stands_before.ensures)

pub returns-then-not-stands_before : goal.returns-then-not-stands_before
returns-then-not-stands_before g c =
    let count = g.met.K.Kind.fifths c.args.words.now in
    rw c.if-not-stands_before.true at (rising_next g.K.Kind.listing _ _ count _ _ c.loop-i.invariant c.loop-i.auto.i c.loop-i-test.true _ _ c.state_at.ensures c.state_at-in-loop-i.ensures _ c.stands_before.ensures)

pub returns : goal.returns
returns g c =
    let count = g.met.K.Kind.fifths c.args.words.now in
    rising_end g.K.Kind.listing _ _ count _ _ c.loop-i.invariant c.loop-i.auto.i c.loop-i-test.false
