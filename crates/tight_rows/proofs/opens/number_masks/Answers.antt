-- `number_masks` goes mask by mask.
use Rattle.tight_rows.proofs.MasksNumbered.{numbered_next}
use Rattle.tight_rows.proofs.opens.number_masks.Goals as goal

pub loop-mask-preserved : goal.loop-mask-preserved
loop-mask-preserved c =
    let l = c.loop-mask in
    let a = c.args in
    numbered_next a.o a.work.now c.requires.0 c.requires.1 l.mask l.row l.work c.loop-mask-test.true l.invariant _ _ c.open_mask-row.ensures
