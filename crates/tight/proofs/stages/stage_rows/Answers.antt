-- `stage_rows` goes through the rows.
use Rattle.tight.proofs.ColumnsCounted.{still_counting, fits_next, counted_next}
use Rattle.tight.proofs.stages.stage_rows.Goals as goal

pub stage_row-requires : goal.stage_row-requires
stage_row-requires c =
    let a = c.args in
    let taken = c.loop-k-test.true in (
      c.requires.0,
      taken,
      still_counting a.cells a.stage a.x a.s a.work.now c.requires.1 c.requires.2 c.loop-k.k c.loop-k.work taken c.loop-k.invariant,
      fits_next a.cells a.stage a.x a.s a.work.now c.requires.1 c.requires.2 c.loop-k.k c.loop-k.work taken c.loop-k.invariant,
    )

pub loop-k-preserved : goal.loop-k-preserved
loop-k-preserved c =
    let a = c.args in
    counted_next a.cells a.stage a.x a.s a.work.now c.requires.1 c.requires.2 c.loop-k.k c.loop-k.work c.loop-k-test.true c.loop-k.invariant _ c.stage_row.ensures
