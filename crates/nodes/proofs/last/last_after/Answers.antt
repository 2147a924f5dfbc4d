-- `last_after`: a run that is not empty ends with its last access.
use Rattle.nodes.proofs.Lasts.{after_none, after_some}
use Rattle.nodes.proofs.last.last_after.Goals as goal

pub returns-then-accesses-eq0 : goal.returns-then-accesses-eq0
returns-then-accesses-eq0 c = after_none c.args.last c.args.accesses.now c.if-accesses-eq0.true

pub returns : goal.returns
returns c = after_some c.args.last c.args.accesses.now c.if-accesses-eq0.false
