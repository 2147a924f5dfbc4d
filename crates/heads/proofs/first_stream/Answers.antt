-- `first_stream` looks for the highest place that is lost, or for the highest stream that is left.
use borrow.Author.Tests.{eq-eqb, ne_eqb}
use Rattle.heads.specs.Head.{first_stream}
use Rattle.heads.proofs.first_stream.Goals as goal

pub returns-then-lost-eq0 : goal.returns-then-lost-eq0
unfolding first_stream
returns-then-lost-eq0 c = rw (eq-eqb _ _ c.if-lost-eq0.true) c.highest_place.ensures

pub returns : goal.returns
unfolding first_stream
returns c = rw (ne_eqb _ _ c.if-lost-eq0.false) c.highest_place-2.ensures
