-- `start_slot` writes zeros up to the end of the first row, and then six words.
use Rattle.tight_tables.proofs.Begun.{begun_written}
use Rattle.tight_tables.proofs.start.start_slot.Goals as goal

pub returns : goal.returns
returns c =
    let a = c.args in
    begun_written a.contents a.cells a.slot a.filled a.work.now _ c.requires.0 c.requires.1 c.requires.2 c.clear_row.ensures
