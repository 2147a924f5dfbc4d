-- `run_of` goes on as long as the states do. The invariant of its loop: those passed do.
use lib.ListN.{take, drop}
use Rattle.rules.specs.Shape.{Every}
use Rattle.words.specs.Tables.{table_of}
use Rattle.estimate.specs.Merging.{InRun}
use Rattle.estimate.proofs.merge.run_of.Given as goal

abbrev pub invariant-loop-i : goal.invariant-loop-i
invariant-loop-i l = Every (InRun l.ways l.x l.mask l.filling) (take l.i (drop l.from (table_of l.work)))
