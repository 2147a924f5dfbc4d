-- `set_aside` adds one amount after the other, which comes to the sum of both.
use Rattle.rules.specs.Units.{add_of}
use Rattle.rules.proofs.Splitting.{more_more}
use Rattle.folding.proofs.partner.set_aside.Goals as goal

pub returns : goal.returns
unfolding add_of
returns c =
    rw (c.add.ensures, c.changed-2.ensures, c.add-first.ensures, c.changed.ensures) (more_more _ _ _)
