-- `seek` halves the stretch in which the place lies. The invariant of its loop: the state stands after all before `low`, and does not
-- stand after the one at `high`, if there is one. In a rising table one comparison decides for all that stand before.
use Prim.Native.Nat.{◌-◌, ◌≤◌}
use lib.ListN.{take}
use Rattle.words.specs.BestTables.{table_of}
use Rattle.rules.specs.Best.{listing}
use Rattle.tables.specs.Placing.{Passed}
use Rattle.tables.proofs.Insertion.{Stopped}
use Rattle.best.proofs.placing.seek.Given as goal

abbrev pub invariant-loop-low : goal.invariant-loop-low
invariant-loop-low l = (l.low ≤ l.high) × (l.high ≤ l.n) × Passed listing l.s (take l.n (table_of l.words)) l.low × Stopped listing l.s (take l.n (table_of l.words)) l.high

abbrev pub decreases-loop-low : goal.decreases-loop-low
decreases-loop-low l = l.high - l.low
