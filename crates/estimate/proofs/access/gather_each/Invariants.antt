-- `gather_each` takes the states one by one. The invariant of its loop: the scratch holds what follows the states passed, added, and the count has
-- what was left over of them.
use mathlib.Core.Path.{◌≡◌}
use lib.ListN.{take, drop}
use Rattle.words.specs.Tables.{table_of}
use Rattle.estimate.specs.Rooms.{InScratch}
use Rattle.rules.specs.Table.{listing}
use Rattle.rules.specs.Step.{successors}
use Rattle.tables.proofs.Following.{gathered}
use Rattle.estimate.proofs.Following.{aside_to}
use Rattle.estimate.proofs.access.gather_each.Given as goal

abbrev pub invariant-loop-i : goal.invariant-loop-i
invariant-loop-i l =
    InScratch (gathered listing (successors l.ways l.x) (take l.m (drop l.from (table_of l.initial.work))) l.i) l.n (table_of l.initial.work) (table_of l.work)
    × (l.count.0 ≡ aside_to l.ways l.x (take l.m (drop l.from (table_of l.initial.work))) l.initial.count.0 l.i)
