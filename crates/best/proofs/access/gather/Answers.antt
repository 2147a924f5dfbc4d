-- `gather` takes the states one by one.
use mathlib.Core.Path.{◌≡◌}
use Prim.Native.Nat.{◌*◌, ◌≤◌}
use native.Mathlib.Omega.{arith}
use lib.ListN.{length, take, drop, length-take}
use Rattle.words.specs.BestTables.{table_of}
use Rattle.words.proofs.BestTables.{fits_table}
use Rattle.rules.specs.Best.{listing}
use Rattle.tables.proofs.Scratch.{scratch_empty, scratch_more, scratch_rising, slot_reads, stretch_long}
use Rattle.best.specs.Tables.{successors}
use Rattle.rules.proofs.Best.{best_lawful}
use Rattle.tables.proofs.Following.{gathered_none, gathered_rising, gathered_next, gathered_room, gathered_all}
use Rattle.best.proofs.Following.{follows_few, workable_at}
use Rattle.best.proofs.access.gather.Goals as goal

pub loop-i-init : goal.loop-i-init
loop-i-init c = let a = c.args in (rw (gathered_none listing (successors a.ways a.x) _) (scratch_empty (table_of a.work.now)))

pub follow_to_scratch-n-requires : goal.follow_to_scratch-n-requires
follow_to_scratch-n-requires c = let l = c.loop-i in
    let p = c.requires in
    let a = c.args in
    let S = take a.m (drop a.from (table_of a.work.now)) in
    let few : l.n ≤ l.i * 17 = gathered_room listing (successors a.ways a.x) S a.ways l.i _ l.invariant.count p.2 (follows_few a.ways a.x S l.i p.6 p.1) in
    let read = slot_reads listing _ _ _ _ l.invariant a.from a.m l.i _ (omega arith) p.4 c.load-s.ensures in (
      p.0,
      rw read (workable_at a.ways a.x S p.6 l.i),
      p.2,
      omega arith,
      scratch_rising listing _ _ _ _ l.invariant (gathered_rising listing (successors a.ways a.x) S best_lawful l.i),
    )

pub loop-i-preserved : goal.loop-i-preserved
loop-i-preserved c = let l = c.loop-i in
    let p = c.requires in
    let a = c.args in
    let S = take a.m (drop a.from (table_of a.work.now)) in
    let long = stretch_long a.from a.m (table_of a.work.now) (omega (arith, fits_table a.work.now 4096 (omega arith))) in
    let followed = c.follow_to_scratch-n in
    let read = slot_reads listing _ _ _ _ l.invariant a.from a.m l.i _ (omega arith) p.4 c.load-s.ensures in
    rw (← gathered_next listing (successors a.ways a.x) S l.i c.load-s.result (omega arith) read)
    (scratch_more listing _ _ _ _ l.invariant _ _ _ followed.ensures)

pub returns : goal.returns
returns c = let l = c.loop-i in
    let a = c.args in
    let S = take a.m (drop a.from (table_of a.work.now)) in
    let past : l.i ≡ a.m = omega arith in
    let short : length S ≤ l.i = omega (arith, length-take a.m (drop a.from (table_of a.work.now))) in
    rw (← gathered_all listing (successors a.ways a.x) S l.i short) l.invariant
