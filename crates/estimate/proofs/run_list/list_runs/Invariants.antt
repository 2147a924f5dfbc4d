-- `list_runs` finds one run after the other, and puts its head among those of the runs before it. The invariant of its loop: the first `count` heads are those of the runs before place `at`.
use Prim.Native.Nat.{◌-◌}
use lib.ListN.{take, drop}
use Rattle.words.specs.Tables.{table_of}
use Rattle.estimate.proofs.RunListing.{ListedTo}
use Rattle.estimate.proofs.run_list.list_runs.Given as goal

abbrev pub invariant-loop-at : goal.invariant-loop-at
invariant-loop-at l = ListedTo l.ways l.x (take l.m (drop l.from (table_of l.work))) l.at l.count l.initial.heads l.heads

abbrev pub decreases-loop-at : goal.decreases-loop-at
decreases-loop-at l = l.m - l.at
