-- `sharing` is none where either is open.
use Rattle.rules.specs.Contents.{shared}
use Rattle.best.proofs.fold.sharing.Goals as goal

pub returns-then-t : goal.returns-then-t
unfolding shared
returns-then-t c = rw (c.if-s.true, c.if-t.true) c.size_of.ensures

pub returns-then-s : goal.returns-then-s
returns-then-s c = rw (c.if-s.true, c.if-t.false)

pub returns : goal.returns
returns c = rw c.if-s.false
