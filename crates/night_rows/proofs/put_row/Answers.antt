-- `put_row` meets its contract: it writes the five words of a row, or nothing.
use native.Mathlib.Omega.{arith}
use lib.ListN.{length-set}
use Rattle.night_rows.proofs.Rows.{row_put_lem, not_put}
use Rattle.night_rows.proofs.put_row.Goals as goal

pub returns-then-room-ne5 : goal.returns-then-room-ne5
returns-then-room-ne5 c = not_put _ _ c.if-room-ne5.true

pub bounds-room-4 : goal.bounds-room-4
bounds-room-4 c = simp length-set (omega (arith, c.if-room-ne5.false))

pub returns : goal.returns
returns c = row_put_lem _ _ c.if-room-ne5.false
