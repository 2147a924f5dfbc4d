-- `row_ends` finds the columns that stay, ends the slot there, and adds up what is set aside.
use native.Mathlib.Omega.{arith}
use Rattle.tight_ends.proofs.Ended.{filled_there, rows_ended}
use Rattle.tight_ends.proofs.row_ends.row_ends.Goals as goal

pub unlike_to-unlike-requires : goal.unlike_to-unlike-requires
unlike_to-unlike-requires c =
    let a = c.args in
    filled_there a.contents a.cells a.slot a.stage a.work.now c.requires _ _ c.find_top-high.ensures _ _ c.find_bottom-low.ensures c.end_slot.new.work c.end_slot.ensures

pub returns : goal.returns
returns c =
    let a = c.args in
    rows_ended a.contents a.cells a.slot a.stage a.work.now c.requires _ _ c.find_top-high.ensures _ _ c.find_bottom-low.ensures c.end_slot.new.work c.end_slot.ensures _
    c.unlike_to-unlike.ensures

pub overflow_add-result-2 : goal.overflow_add-result-2
overflow_add-result-2 c = record { fits = omega (arith, (returns c).most) }
