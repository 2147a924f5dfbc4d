-- `how_near` says how near two states are in each respect.
use Rattle.best.proofs.fold.how_near.Goals as goal

pub returns : goal.returns
returns c = rw (c.sharing.ensures, c.apart.ensures, c.apart-2.ensures)
