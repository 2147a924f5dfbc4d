-- `move_row` moves the row of the contents that stand at its place.
use Rattle.tight.proofs.RowsMoved.{row_ready}
use Rattle.tight.proofs.arrivals.move_row.Goals as goal

pub move_contents-requires : goal.move_contents-requires
move_contents-requires c =
    let a = c.args in
    row_ready a.ways a.x a.live a.t a.s a.k a.work.now c.requires _ c.route_at-r.ensures
