-- `gather` takes the states one by one. The invariant of its loop: the scratch holds what follows the states passed, added.
use lib.ListN.{take, drop}
use Rattle.words.specs.BestTables.{table_of}
use Rattle.best.specs.Rooms.{InScratch}
use Rattle.rules.specs.Best.{listing}
use Rattle.best.specs.Tables.{successors}
use Rattle.tables.proofs.Following.{gathered}
use Rattle.best.proofs.access.gather.Given as goal

abbrev pub invariant-loop-i : goal.invariant-loop-i
invariant-loop-i l =
    InScratch (gathered listing (successors l.ways l.x) (take l.m (drop l.from (table_of l.initial.work))) l.i) l.n (table_of l.initial.work) (table_of l.work)
