-- `load` has the five words of a state read as a table of one state.
use mathlib.Core.Path.{◌∙◌}
use Rattle.searches.proofs.Parts.{part_at}
use Rattle.estimate.proofs.memory.load.Goals as goal

pub returns : goal.returns
returns c = let a = c.args in c.state_at.ensures ∙ part_at a.words.now a.at
