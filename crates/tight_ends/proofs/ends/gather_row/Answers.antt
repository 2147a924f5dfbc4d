-- `gather_row` adds up the first cells, copies, writes the sum and clears.
use Rattle.tight_rows.proofs.Totals.{plain}
use Rattle.tight_ends.proofs.RowsGathered.{row_gathered}
use Rattle.tight_ends.proofs.ends.gather_row.Goals as goal

pub returns : goal.returns
returns c =
    let a = c.args in
    row_gathered a.from a.to a.bottom a.width a.cells _ a.work.now _ _ c.requires (plain _ _ c.sum_of-first.ensures c.requires.fits) c.copy_down.ensures c.clear_row.ensures
