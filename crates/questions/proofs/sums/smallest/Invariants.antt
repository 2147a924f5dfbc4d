-- `smallest` meets its contract. The invariant of its loop: `high` serves, and no budget below `low` does. One comparison decides for all
-- below, since the units above fall as the budget grows.
use Prim.Native.Nat.{◌-◌, ◌≤◌}
use Rattle.rules.specs.Questions.{above}
use Rattle.words.specs.Tables.{table_of}
use Rattle.questions.proofs.Amounts.{NoneBelow}
use Rattle.questions.proofs.sums.smallest.Given as goal

abbrev pub invariant-loop-low : goal.invariant-loop-low
invariant-loop-low l = (l.low ≤ l.high) × (l.high ≤ l.initial.high) × (above l.high (table_of l.words) ≤ l.units) × NoneBelow (table_of l.words) l.units l.low

abbrev pub decreases-loop-low : goal.decreases-loop-low
decreases-loop-low l = l.high - l.low
