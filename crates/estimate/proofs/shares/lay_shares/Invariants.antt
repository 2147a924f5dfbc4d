-- `lay_shares` lays what becomes of the states one behind the other. The invariant of its loop: what becomes of the states passed stands behind the table.
use Prim.Native.Nat.{◌+◌}
use lib.ListN.{take, drop}
use Rattle.words.specs.Tables.{table_of}
use Rattle.estimate.specs.Rooms.{InScratch}
use Rattle.estimate.proofs.Laying.{laid, shares_of}
use Rattle.estimate.proofs.shares.lay_shares.Given as goal

abbrev pub invariant-loop-i : goal.invariant-loop-i
invariant-loop-i l =
    InScratch (laid (shares_of l.to l.times (l.from + l.start) l.m l.start (table_of l.initial.work) l.parts) (take l.n (drop 4096 (table_of l.initial.work))) l.i) l.states (table_of l.initial.work) (table_of l.work)
