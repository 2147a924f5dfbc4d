-- `run` takes the accesses one by one. The invariant of its loop: the table at its place can be worked on, what is before it is as it was, and the
-- accesses to come lead from it to where all of them lead from the table at the start.
use mathlib.Core.Path.{◌≡◌}
use Prim.Native.Nat.{◌-◌}
use lib.ListN.{length, take}
use Rattle.words.specs.Tables.{table_of}
use Rattle.estimate.specs.Working.{work_at, Ready}
use Rattle.rules.specs.Fold.{states}
use Rattle.tables.proofs.Settling.{Ran}
use Rattle.estimate.proofs.run.run.Given as goal

abbrev pub invariant-loop-block : goal.invariant-loop-block
invariant-loop-block l =
    Ready l.cache l.tracked l.limit (4096 - (length l.accesses - l.block-index)) l.at l.so_far.states l.so_far.aside.0 l.work
    × (take l.at (table_of l.work) ≡ take l.at (table_of l.initial.work))
    × Ran states l.cache.ways l.cache.sets l.limit l.tracked l.accesses l.block-index l.before (work_at l.at l.so_far.states l.so_far.aside.0 l.work) l.initial.before (work_at l.at l.initial.so_far.states l.initial.so_far.aside.0 l.initial.work)
