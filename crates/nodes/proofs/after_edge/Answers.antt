-- `after_edge` goes two numbers further, unless the list ends before.
use mathlib.Core.Path.{sym}
use native.Mathlib.Nat.{min-eq_left, min-eq_right}
use native.Mathlib.Omega.{arith}
use Rattle.nodes.proofs.after_edge.Goals as goal

pub returns-then-n-lt2 : goal.returns-then-n-lt2
returns-then-n-lt2 c = sym (min-eq_right (omega arith))

pub returns-then-n-e : goal.returns-then-n-e
returns-then-n-e c = sym (min-eq_right (omega arith))

pub returns : goal.returns
returns c = sym (min-eq_left (omega arith))
