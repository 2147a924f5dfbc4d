-- `move_rows` goes through the rows.
use native.Mathlib.Omega.{arith}
use Rattle.tight.proofs.RowsMoved.{next_ready, moved_next}
use Rattle.tight.proofs.arrivals.move_rows.Goals as goal

pub move_row-requires : goal.move_row-requires
move_row-requires c =
    let a = c.args in
    next_ready a.ways a.x a.live a.t a.s a.work.now c.requires.0 c.requires.1 c.loop-k.k c.loop-k.work (omega arith) c.loop-k.invariant c.loop-k-test.true

pub loop-k-preserved : goal.loop-k-preserved
loop-k-preserved c =
    let a = c.args in
    moved_next a.ways a.x a.live a.t a.s a.work.now c.requires.0 c.requires.1 c.loop-k.k c.loop-k.work (omega arith) c.loop-k.invariant c.loop-k-test.true _ c.move_row.ensures
