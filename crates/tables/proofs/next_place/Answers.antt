-- `next_place` counts the zeros below the next bit that is set.
use mathlib.Core.Path.{sym}
use native.Mathlib.Omega.{arith}
use Rattle.tables.proofs.Places.{next_found, next_past}
use Rattle.tables.proofs.next_place.Goals as goal

pub returns-then-at-ge16 : goal.returns-then-at-ge16
returns-then-at-ge16 c = sym (next_past _ _ c.if-at-ge16.true)

pub returns : goal.returns
returns c = next_found _ _ (omega arith)
