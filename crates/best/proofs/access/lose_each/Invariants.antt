-- `lose_each` goes from one of the places to the next. The invariant of its loop: the losses at the places passed are added.
use mathlib.Core.Path.{◌≡◌}
use Prim.Native.Nat.{◌-◌, ◌≤◌}
use lib.ListN.{length}
use Rattle.best.specs.Placing.{Added}
use Rattle.words.specs.BestTables.{table_of}
use Rattle.best.specs.Following.{losing}
use Rattle.rules.specs.Best.{listing}
use Rattle.tables.proofs.Following.{lost_below}
use Rattle.best.proofs.access.lose_each.Given as goal

abbrev pub invariant-loop-at : goal.invariant-loop-at
invariant-loop-at l = (l.at ≤ 16) × (length l.words ≡ length l.initial.words) × Added (lost_below listing (losing l.x l.s l.part.0) l.risk l.at) l.n l.m (table_of l.initial.words) (table_of l.words)

abbrev pub decreases-loop-at : goal.decreases-loop-at
decreases-loop-at l = 16 - l.at
