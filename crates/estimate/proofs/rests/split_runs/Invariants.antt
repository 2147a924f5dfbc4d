-- `split_runs` takes the heads one by one. The invariant of its loop: the scratch holds what is left over of the runs passed, the count has it too, and their parts are right. At the end these are the
-- runs of the whole table.
use mathlib.Core.Path.{◌≡◌}
use mathlib.Core.List.{[], map}
use Prim.Native.Nat.{◌+◌, ◌≤◌}
use lib.ListN.{take, drop}
use Rattle.basics.specs.Sums.{sum_over}
use Rattle.rules.specs.Shape.{Every}
use Rattle.rules.specs.Step.{left_over}
use Rattle.rules.specs.Table.{add}
use Rattle.words.specs.Tables.{table_of}
use Rattle.heads.specs.Head.{length_in, start_in}
use Rattle.estimate.specs.Merging.{alone}
use Rattle.estimate.specs.Rooms.{InScratch}
use Rattle.estimate.specs.Splitting.{SplitIn}
use Rattle.estimate.proofs.LeftOver.{runs_to}
use Rattle.estimate.proofs.rests.split_runs.Given as goal

abbrev pub invariant-loop-head : goal.invariant-loop-head
invariant-loop-head l =
    InScratch (add (map (alone l.ways l.x) (runs_to (take l.m (drop l.from (table_of l.initial.work))) l.head-items l.head-index)) []) l.so_far.states (table_of l.initial.work) (table_of l.work)
    × (l.so_far.left ≡ sum_over (left_over l.ways l.x) (runs_to (take l.m (drop l.from (table_of l.initial.work))) l.head-items l.head-index))
    × Every (λ h. (start_in h + length_in h ≤ l.m) × SplitIn l.ways l.x (take l.m (drop l.from (table_of l.initial.work))) l.parts h) (take l.head-index l.head-items)
