-- `work_nodes` works one node after the other. The invariant of its loop: the tables in the slots are those of the nodes so far, and the next run starts
-- behind theirs.
use mathlib.Core.Path.{◌≡◌}
use Rattle.rules.specs.Input.{input_of, offset}
use Rattle.best.specs.Tables.{worked}
use Rattle.words.specs.BestTables.{table_of}
use Rattle.best.specs.Rooms.{worked_in}
use Rattle.best.proofs.graph.work_nodes.Given as goal

abbrev pub invariant-loop-j : goal.invariant-loop-j
invariant-loop-j l =
    (l.from ≡ offset l.runs l.j) × (worked_in l.j (table_of l.work) ≡ worked (input_of l.cache l.limit l.tracked l.runs l.accesses l.edges) l.j)
