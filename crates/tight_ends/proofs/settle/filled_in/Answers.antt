-- `filled_in` reads both groups.
use Rattle.tight_rows.specs.Room.{words_of}
use Rattle.tight_ends.proofs.FilledFound.{filled_in_is}
use Rattle.tight_ends.proofs.settle.filled_in.Goals as goal

pub returns : goal.returns
returns c =
    let a = c.args in
    filled_in_is a.cells a.stage a.j (words_of a.work.now) _ _ c.filled_at-hit.ensures c.filled_at-missed.ensures _ _ _ c.in_use.ensures c.in_use-2.ensures
    c.fullest.ensures
