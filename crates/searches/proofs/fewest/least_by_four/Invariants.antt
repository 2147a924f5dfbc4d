-- `least_by_four` goes on by four states while there are as many. The invariant of its loop: the least units of the first `i` states are known, and those before
-- place `from` have more.
use Prim.Native.Nat.{◌-◌, ◌≤◌}
use Rattle.words.specs.Tables.{table_of}
use Rattle.searches.specs.Least.{Lowest}
use Rattle.searches.proofs.fewest.least_by_four.Given as goal

abbrev pub invariant-loop-i : goal.invariant-loop-i
invariant-loop-i l = (l.i ≤ l.n) × Lowest (table_of l.words) l.i l.units.0 l.from

abbrev pub decreases-loop-i : goal.decreases-loop-i
decreases-loop-i l = l.n - l.i
