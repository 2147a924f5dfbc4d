-- `stage_units` clears both rows, and adds the rows of the table to them.
use Rattle.tight.proofs.ColumnsCounted.{double, cleared_counting, cleared_fits, units_staged}
use Rattle.tight.proofs.stages.stage_units.Goals as goal

pub stage_rows-requires : goal.stage_rows-requires
stage_rows-requires c =
    let a = c.args in (
      c.requires.0,
      cleared_counting a.cells a.stage a.x a.s a.work.now _ c.requires.1 _ (double a.cells) c.clear_row.ensures,
      cleared_fits a.cells a.stage a.x a.s a.work.now _ c.requires.1 _ (double a.cells) c.clear_row.ensures c.requires.2,
    )

pub returns : goal.returns
returns c =
    let a = c.args in
    units_staged a.cells a.stage a.x a.s a.work.now _ c.requires.1 _ (double a.cells) c.clear_row.ensures _ c.stage_rows.ensures
