-- `largest` meets its contract.
use native.Mathlib.Nat.{zero-max}
use Rattle.any_table.proofs.Counting.{largest_next, largest_end}
use Rattle.any_table.proofs.counts.largest.Goals as goal

pub loop-i-init : goal.loop-i-init
loop-i-init g c = zero-max _

pub loop-i-preserved : goal.loop-i-preserved
loop-i-preserved g c =
    let long = g.met.K.Kind.fifths c.args.words.now in
    largest_next g.K.Kind.listing g.C.Count.count _ _ long _ _ c.loop-i.invariant c.loop-i-test.true _ c.state_at.ensures _ c.of.ensures _ c.larger-most.ensures

pub returns : goal.returns
returns g c =
    let long = g.met.K.Kind.fifths c.args.words.now in
    largest_end g.K.Kind.listing g.C.Count.count _ _ long _ _ c.loop-i.invariant c.loop-i-test.false
