-- `put` meets its contract.
use Rattle.writing.proofs.Putting.{bytes_less, bytes_all}
use Rattle.writing.proofs.put.Goals as goal

pub loop-b-preserved : goal.loop-b-preserved
loop-b-preserved c = bytes_less _ _ _ _ _ _ c.loop-b.invariant c.loop-b-test.true _ _ c.put_byte-end.ensures

pub returns : goal.returns
returns c = bytes_all _ _ _ _ _ _ c.loop-b.invariant c.loop-b-test.false
