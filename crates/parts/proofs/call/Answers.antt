-- `call` meets its contract: what lies between the ends is what the numbers mean.
use Rattle.parts.proofs.Calls.{left_between}
use Rattle.parts.proofs.call.Goals as goal

pub returns : goal.returns
returns c =
    let a = c.args in
    left_between a.choice a.numbers.now _ _ a.first a.second a.third c.requires.0 _ c.analyse.ensures
