-- `send_rows` opens the table, moves the rows, and writes the header and the filled numbers of the stage.
use Rattle.tight.proofs.Delivered.{may_open, may_move, may_head, delivered}
use Rattle.tight.proofs.steps.send_rows.Goals as goal

pub move_all-requires : goal.move_all-requires
move_all-requires c =
    let a = c.args in
    may_move a.ways a.x a.live a.s a.o a.from a.stage a.work.now c.requires _ _ (c.open_rows-rows.ensures.does (may_open a.ways a.x a.live a.s a.o a.from a.stage a.work.now c.requires)) _ c.receiver_of-t.ensures

pub send_header-requires : goal.send_header-requires
send_header-requires c =
    let a = c.args in
    may_head a.ways a.x a.live a.s a.o a.from a.stage a.work.now c.requires _ _ (c.open_rows-rows.ensures.does (may_open a.ways a.x a.live a.s a.o a.from a.stage a.work.now c.requires)) _ c.receiver_of-t.ensures _ c.move_all.ensures

pub returns : goal.returns
returns c =
    let a = c.args in
    delivered a.ways a.x a.live a.s a.o a.from a.stage a.work.now c.requires _ _ (c.open_rows-rows.ensures.does (may_open a.ways a.x a.live a.s a.o a.from a.stage a.work.now c.requires)) _ c.receiver_of-t.ensures _ c.move_all.ensures _
    c.send_header.ensures _ c.put_groups.ensures
