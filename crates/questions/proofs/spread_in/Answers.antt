-- `spread_in` meets its contract: what the spread of any count answers and leaves is what this one does.
use Rattle.questions.proofs.Answered.{spread_given}
use Rattle.questions.proofs.spread_in.Goals as goal

pub returns : goal.returns
returns c = spread_given _ _ _ _ c.spread_in.ensures.answered c.spread_in.ensures.left
