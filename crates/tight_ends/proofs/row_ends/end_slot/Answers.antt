-- `end_slot` keeps the rows, writes their filled numbers, and then the header.
use Rattle.tight_ends.proofs.Ended.{slot_ended}
use Rattle.tight_ends.proofs.row_ends.end_slot.Goals as goal

pub returns : goal.returns
returns c =
    let a = c.args in
    slot_ended a.contents a.cells a.slot a.stage a.bottom a.top a.gone a.work.now c.requires.0 c.requires.1 c.requires.2 c.requires.3 _ c.keep_rows-rows.new.work c.keep_rows-rows.ensures
    c.put_all_filled.new.work c.put_all_filled.ensures c.put_header.new.work c.put_header.ensures
