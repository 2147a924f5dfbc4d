-- `put_whole` takes the states of the run one by one. The invariant of its loop: the scratch holds what comes of the states passed, and what comes of the next belongs to the
-- place that the run has come to, or further on.
use mathlib.Core.List.{map}
use lib.ListN.{take, drop}
use Rattle.words.specs.Tables.{table_of}
use Rattle.estimate.specs.Merging.{part}
use Rattle.estimate.specs.Rooms.{InScratch}
use Rattle.estimate.proofs.Runs.{To}
use Rattle.estimate.proofs.Adding.{added}
use Rattle.estimate.proofs.merge.put_whole.Given as goal

abbrev pub invariant-loop-i : goal.invariant-loop-i
invariant-loop-i l =
    InScratch (added (map (part l.ways l.x l.k) (take l.m (drop l.from (table_of l.initial.work)))) (take l.n (drop 4096 (table_of l.initial.work))) l.i) l.so_far.states (table_of l.initial.work) (table_of l.work)
    × To l.ways l.x l.k (take l.m (drop l.from (table_of l.initial.work))) l.i (added (map (part l.ways l.x l.k) (take l.m (drop l.from (table_of l.initial.work)))) (take l.n (drop 4096 (table_of l.initial.work))) l.i) l.so_far.at
