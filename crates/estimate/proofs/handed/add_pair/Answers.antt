-- `add_pair` reads the two states that the row names, and adds what they make.
use Rattle.estimate.proofs.HandedIn.{pair_added_lem}
use Rattle.estimate.proofs.handed.add_pair.Goals as goal

pub returns : goal.returns
returns c =
    pair_added_lem c.load-s.result c.load-t.result _ _ _ _ _ _ _ _
    c.load-s.ensures c.load-t.ensures
    c.meet.ensures c.add_to_scratch.ensures
