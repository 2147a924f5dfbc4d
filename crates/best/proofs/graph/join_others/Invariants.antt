-- `join_others` joins one table at a time. The invariant of its loop: the slots before the node's are as they were, and the tables to come, joined to
-- what stands in its slot, make what all of them make of what stood there at the start.
use mathlib.Core.Path.{◌≡◌}
use Prim.Native.Nat.{◌-◌, ◌*◌, ◌≤◌, ◌<◌}
use lib.ListN.{length, take}
use Rattle.rules.specs.Shape.{Every}
use Rattle.best.specs.Tables.{join_all}
use Rattle.words.specs.BestTables.{table_of}
use Rattle.best.specs.Rooms.{worked_in}
use Rattle.tables.specs.Edges.{came_from, AtEdge}
use Rattle.best.specs.Working.{work_at}
use Rattle.best.proofs.graph.join_others.Given as goal

abbrev pub invariant-loop-e : goal.invariant-loop-e
invariant-loop-e l =
    (l.e ≤ length l.edges) × AtEdge l.edges l.to l.e × (length l.work ≡ length l.initial.work) × (l.so_far ≤ 64)
    × (take (l.to * 64) (table_of l.work) ≡ take (l.to * 64) (table_of l.initial.work)) × Every (λ p. p < l.to) (came_from l.edges l.to l.e)
    × (join_all l.limit (worked_in l.to (table_of l.initial.work)) (came_from l.edges l.to l.e) (work_at (l.to * 64) l.so_far l.work)
    ≡ join_all l.limit (worked_in l.to (table_of l.initial.work)) (came_from l.edges l.to l.after) (work_at (l.to * 64) l.n l.initial.work))

abbrev pub decreases-loop-e : goal.decreases-loop-e
decreases-loop-e l = length l.edges - l.e
