-- `run` takes the accesses one by one. The invariant of its loop: the table at its place can be worked on, what is before it is as it was, and the
-- accesses to come lead from it to where all of them lead from the table at the start.
use mathlib.Core.Path.{◌≡◌}
use Prim.Native.Nat.{◌-◌}
use lib.ListN.{length, take}
use Rattle.words.specs.BestTables.{table_of}
use Rattle.best.specs.Working.{work_at, Ready}
use Rattle.best.proofs.Settling.{Ran}
use Rattle.best.proofs.run.run.Given as goal

abbrev pub invariant-loop-block : goal.invariant-loop-block
invariant-loop-block l =
    Ready l.sets l.ways l.tracked l.limit (4096 - (length l.accesses - l.block-index)) l.at l.so_far l.work
    × (take l.at (table_of l.work) ≡ take l.at (table_of l.initial.work))
    × Ran l.ways l.sets l.limit l.tracked l.accesses l.block-index (work_at l.at l.so_far l.work) (work_at l.at l.n l.initial.work)
