-- `streams_of` tells the three kinds of runs apart.
use mathlib.Core.Path.{refl}
use Rattle.heads.specs.Head.{streams_for}
use Rattle.heads.proofs.streams_of.Goals as goal

pub returns-then-hit : goal.returns-then-hit
unfolding streams_for
returns-then-hit c = rw c.if-hit.true refl

pub returns-then-filling : goal.returns-then-filling
unfolding streams_for
returns-then-filling c = rw (c.if-hit.false, c.if-filling.true) refl

pub returns : goal.returns
unfolding streams_for
returns c = rw (c.if-hit.false, c.if-filling.false) refl
