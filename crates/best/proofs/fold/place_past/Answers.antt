-- `place_past` skips the place that is out: the places before it stay, the others are one further.
use native.Mathlib.Numerals.{add-one}
use borrow.Author.Tests.{lt-ltb, le-ltb}
use Rattle.best.proofs.fold.place_past.Goals as goal

pub returns-then-at-out : goal.returns-then-at-out
returns-then-at-out c = rw (lt-ltb _ _ c.if-at-out.true)

pub returns : goal.returns
returns c = rw (le-ltb _ _ c.if-at-out.false) (add-one _)
