-- `put_shares` puts what becomes of the states one by one. The invariant of its loop: the scratch holds what becomes of the states passed, and what is still to come stands behind
-- the place that the run has come to.
use Prim.Native.Nat.{◌+◌}
use lib.ListN.{take, drop}
use Rattle.words.specs.Tables.{table_of}
use Rattle.estimate.specs.Rooms.{InScratch}
use Rattle.estimate.proofs.Adding.{added}
use Rattle.estimate.proofs.Laying.{Onto, shares_of}
use Rattle.estimate.proofs.shares.put_shares.Given as goal

abbrev pub invariant-loop-i : goal.invariant-loop-i
invariant-loop-i l =
    let U = shares_of l.to l.times (l.from + l.start) l.m l.start (table_of l.initial.work) l.parts in
    let Y = added U (take l.n (drop 4096 (table_of l.initial.work))) l.i in
    InScratch Y l.so_far.states (table_of l.initial.work) (table_of l.work) × Onto U l.i Y l.so_far.at
