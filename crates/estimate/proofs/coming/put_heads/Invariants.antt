-- `put_heads` takes the lowest head, puts what comes next of it, and lets it go on. The invariant of its loop: what is to come of the heads that wait, with what stands in the scratch, is what
-- it was; its measure: the streams that are left of them.
use mathlib.Core.Path.{◌≡◌}
use mathlib.Core.List.{flat_map}
use lib.ListN.{length, take, drop}
use Rattle.rules.specs.Table.{add}
use Rattle.words.specs.Tables.{table_of}
use Rattle.estimate.specs.ToCome.{to_come}
use Rattle.estimate.proofs.HeadByHead.{PutTo, left_in}
use Rattle.estimate.proofs.coming.put_heads.Given as goal

abbrev pub invariant-loop-i : goal.invariant-loop-i
invariant-loop-i l =
    (length l.work ≡ length l.initial.work)
    × PutTo l.ways l.x (take l.m (drop l.from (table_of l.initial.work))) l.parts l.initial.heads l.count
    (add (flat_map (to_come l.ways l.x (take l.m (drop l.from (table_of l.initial.work)))) (take l.count l.initial.heads)) (take l.n (drop 4096 (table_of l.initial.work)))) (table_of l.initial.work) (table_of l.work) l.heads l.i l.so_far.states l.so_far.at

abbrev pub decreases-loop-i : goal.decreases-loop-i
decreases-loop-i l = left_in l.i l.count l.heads
