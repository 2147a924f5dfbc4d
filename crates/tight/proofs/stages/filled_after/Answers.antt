-- `filled_after` asks `fuller` for a state that has these numbers.
use Rattle.tight.proofs.ColumnsCounted.{after_miss}
use Rattle.tight.proofs.stages.filled_after.Goals as goal

pub returns : goal.returns
returns c =
    let a = c.args in
    after_miss a.ways a.x c.requires.0 c.requires.1 c.requires.2 _ _ c.fuller-after.ensures
