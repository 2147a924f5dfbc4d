-- `split_run` takes the states one by one. The invariant of its loop: the scratch holds what is left over of the states passed, the count has it too, and their parts are written; each other part
-- is as it was.
use mathlib.Core.Path.{◌≡◌}
use mathlib.Core.List.{map}
use Prim.Native.Nat.{ℕ, ◌+◌, ◌/◌, ◌%◌, ◌<◌}
use lib.ListN.{get_or, take, drop}
use Rattle.basics.specs.Sums.{sum_over}
use Rattle.rules.specs.Table.{units_of, state_at}
use Rattle.words.specs.Tables.{table_of}
use Rattle.estimate.specs.Rooms.{InScratch}
use Rattle.estimate.specs.Splitting.{rest_in, Parted}
use Rattle.estimate.proofs.Adding.{added}
use Rattle.estimate.proofs.rests.split_run.Given as goal

abbrev pub invariant-loop-i : goal.invariant-loop-i
invariant-loop-i l =
    InScratch (added (map (rest_in l.ways l.own) (take l.m (drop (l.from + l.start) (table_of l.initial.work)))) (take l.initial.so_far.states (drop 4096 (table_of l.initial.work))) l.i) l.so_far.states (table_of l.initial.work) (table_of l.work)
    × (l.so_far.left ≡ l.initial.so_far.left + sum_over (λ s. units_of s % l.ways) (take l.i (take l.m (drop (l.from + l.start) (table_of l.initial.work)))))
    × ((j : ℕ) → j < l.i → get_or l.parts (l.start + j) 0 ≡ units_of (state_at (table_of l.initial.work) (l.from + l.start + j)) / l.ways)
    × Parted l.ways l.from (table_of l.initial.work) l.initial.parts l.parts
