-- `work_nodes` works one node after the other. The invariant of its loop: the tables in the slots, the last blocks that are kept, the set-aside count and
-- whether what is handed in is accepted are those of the nodes so far, and the next run starts behind theirs.
use mathlib.Core.Path.{◌≡◌}
use lib.ListN.{length}
use Rattle.rules.specs.Input.{input_of, offset, edges_of, joins_to}
use Rattle.rules.specs.Graph.{worked_by, all_fit}
use Rattle.rules.specs.Entries.{entry_of}
use Rattle.words.specs.Tables.{table_of}
use Rattle.estimate.specs.Rooms.{worked_in}
use Rattle.estimate.proofs.Lasts.{LastsKept}
use Rattle.estimate.proofs.graph.work_nodes.Given as goal

abbrev pub invariant-loop-j : goal.invariant-loop-j
invariant-loop-j l =
    let i = input_of l.cache l.limit l.tracked l.runs l.accesses l.edges in
    let Q = entry_of l.counts l.rows in
    record {
      start : l.from ≡ offset l.runs l.j;
      tables : worked_in l.j l.done.aside.0 (table_of l.work) ≡ worked_by Q i l.j;
      places : length l.lasts ≡ 64;
      lasts : LastsKept i l.j l.lasts;
      fits : l.done.fits ≡ all_fit Q i l.j;
      joins : l.joins ≡ joins_to (edges_of l.edges) l.j;
    }
