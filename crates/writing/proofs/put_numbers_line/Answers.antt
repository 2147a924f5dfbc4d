-- `put_numbers_line` meets its contract.
use Rattle.writing.proofs.Putting.{numbers_less, numbers_all}
use Rattle.writing.proofs.put_numbers_line.Goals as goal

pub loop-i-preserved : goal.loop-i-preserved
loop-i-preserved c =
    numbers_less _ _ _ _ _ _ c.loop-i.invariant c.loop-i-test.true _ _ c.put_entry-end.ensures

pub returns : goal.returns
returns c = numbers_all _ _ _ _ _ _ c.loop-i.invariant c.loop-i-test.false
