-- `longest_in` meets its contract: what lies between the ends is what the numbers mean.
use Rattle.parts.proofs.Calls.{longest_between}
use Rattle.parts.proofs.longest_in.Goals as goal

pub returns : goal.returns
returns c =
    let a = c.args in
    longest_between a.choice a.numbers.now a.first a.second a.third c.requires.0 _ c.longest_path.ensures
