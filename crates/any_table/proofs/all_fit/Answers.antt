-- `all_fit` meets its contract.
use Rattle.any_table.specs.Accepted.{all_fitting}
use Rattle.any_table.proofs.Fitting.{fitting_next, state_end}
use Rattle.any_table.proofs.all_fit.Goals as goal

pub loop-i-preserved : goal.loop-i-preserved
loop-i-preserved g c =
    let count = g.met.K.Kind.fifths c.args.words.now in
    rw c.if-not-is_fitting.false at (fitting_next g.K.Kind.listing _ _ count _ _ _ c.loop-i.invariant c.loop-i-test.true _ c.state_at.ensures _ c.is_fitting.ensures)

pub returns-then-not-is_fitting : goal.returns-then-not-is_fitting
returns-then-not-is_fitting g c =
    let count = g.met.K.Kind.fifths c.args.words.now in
    rw c.if-not-is_fitting.true at (fitting_next g.K.Kind.listing _ _ count _ _ _ c.loop-i.invariant c.loop-i-test.true _ c.state_at.ensures _ c.is_fitting.ensures)

pub returns : goal.returns
returns g c =
    let count = g.met.K.Kind.fifths c.args.words.now in
    state_end g.K.Kind.listing _ _ count _ (all_fitting g.K.Kind.fitting) _ c.loop-i.invariant c.loop-i-test.false
