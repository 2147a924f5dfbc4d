-- `unlike` reads both groups.
use Rattle.tight_rows.specs.Room.{words_of}
use Rattle.tight_ends.proofs.FilledFound.{unlike_is}
use Rattle.tight_ends.proofs.settle.unlike.Goals as goal

pub returns : goal.returns
returns c =
    let a = c.args in
    unlike_is a.cells a.stage a.j (words_of a.work.now) _ _ c.filled_at-hit.ensures c.filled_at-missed.ensures a.f _ _ c.changed_units.ensures c.changed_units-2.ensures
