-- `Units::add` is the sum that stops at WHOLE: where one of its two tests passes the sum is at least WHOLE, and otherwise it is below.
use native.Mathlib.Omega.{arith}
use Rattle.rules.proofs.Splitting.{add_stops, add_adds}
use Rattle.rules.proofs.Units.add.Goals as goal

pub returns-then-whole-self : goal.returns-then-whole-self
returns-then-whole-self c = add_stops _ _ (omega arith)

pub returns-then-whole-self-2 : goal.returns-then-whole-self-2
returns-then-whole-self-2 c = add_stops _ _ (omega arith)

pub returns : goal.returns
returns c = add_adds _ _ (omega arith)
