-- `join_others` joins one table at a time. The invariant of its loop: the slots before the node's are as they were, and the tables to come, joined to
-- what stands in its slot, make what all of them make of what stood there at the start; so with whether what is handed in is accepted.
use mathlib.Core.Path.{◌≡◌}
use mathlib.Core.Bool.{◌&&◌}
use Prim.Native.Nat.{◌+◌, ◌-◌, ◌*◌, ◌≤◌, ◌<◌}
use lib.ListN.{length, take}
use Rattle.rules.specs.Shape.{Every}
use Rattle.rules.specs.AnyTable.{behind}
use Rattle.rules.specs.Graph.{join_all_by, joins_fit}
use Rattle.rules.specs.Entries.{entry_of}
use Rattle.words.specs.Tables.{table_of}
use Rattle.estimate.specs.Rooms.{worked_in}
use Rattle.tables.specs.Edges.{came_from, AtEdge}
use Rattle.estimate.specs.Working.{work_at}
use Rattle.estimate.proofs.graph.join_others.Given as goal

abbrev pub invariant-loop-e : goal.invariant-loop-e
invariant-loop-e l =
    (l.e ≤ length l.edges) × AtEdge l.edges l.to l.e × (length l.work ≡ length l.initial.work) × (l.so_far.states ≤ 64)
    × (take (l.to * 64) (table_of l.work) ≡ take (l.to * 64) (table_of l.initial.work)) × Every (λ p. p < l.to) (came_from l.edges l.to l.e)
    × (join_all_by (behind l.number (entry_of l.counts l.rows)) l.limit (worked_in l.to l.initial.so_far.aside.0 (table_of l.initial.work)) (came_from l.edges l.to l.e) (work_at (l.to * 64) l.so_far.states l.so_far.aside.0 l.work)
    ≡ join_all_by (behind l.joins (entry_of l.counts l.rows)) l.limit (worked_in l.to l.initial.so_far.aside.0 (table_of l.initial.work)) (came_from l.edges l.to l.after) (work_at (l.to * 64) l.initial.so_far.states l.initial.so_far.aside.0 l.initial.work))
    × ((l.so_far.fits && joins_fit (behind l.number (entry_of l.counts l.rows)) l.limit (worked_in l.to l.initial.so_far.aside.0 (table_of l.initial.work)) (came_from l.edges l.to l.e) (work_at (l.to * 64) l.so_far.states l.so_far.aside.0 l.work))
    ≡ (l.initial.so_far.fits && joins_fit (behind l.joins (entry_of l.counts l.rows)) l.limit (worked_in l.to l.initial.so_far.aside.0 (table_of l.initial.work)) (came_from l.edges l.to l.after) (work_at (l.to * 64) l.initial.so_far.states l.initial.so_far.aside.0 l.initial.work)))
    × (l.number ≤ l.joins + l.e)

abbrev pub decreases-loop-e : goal.decreases-loop-e
decreases-loop-e l = length l.edges - l.e
