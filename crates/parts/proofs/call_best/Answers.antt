-- `call_best` meets its contract: what lies between the ends is what the numbers mean.
use Rattle.parts.proofs.Best.{best_between}
use Rattle.parts.proofs.call_best.Goals as goal

pub returns : goal.returns
returns c =
    let a = c.args in
    best_between a.sets a.revision a.numbers.now _ _ a.first a.second a.third c.requires.0 _ c.analyse_best.ensures
