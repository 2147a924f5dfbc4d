-- `put_all_filled` goes cell by cell.
use Rattle.tight_ends.proofs.FilledPut.{all_next}
use Rattle.tight_ends.proofs.settle.put_all_filled.Goals as goal

pub loop-i-preserved : goal.loop-i-preserved
loop-i-preserved c =
    let a = c.args in
    all_next a.cells a.stage a.bottom a.fronts a.backs a.width a.work.now c.requires c.loop-i.i c.loop-i.work c.loop-i-test.true c.loop-i.invariant
    c.put_filled.new.work c.put_filled.ensures
