-- `put_whole` takes the states of the run one by one.
use mathlib.Core.Path.{◌≡◌, refl, ap}
use mathlib.Core.Bool.{true}
use mathlib.Core.List.{map}
use Prim.Native.Nat.{◌+◌, ◌<◌}
use native.Mathlib.Omega.{arith}
use lib.ListN.{length, take, drop, length-take}
use Rattle.rules.specs.Contents.{hits, shared}
use Rattle.rules.specs.Table.{listing}
use Rattle.words.specs.Tables.{table_of}
use Rattle.words.proofs.Tables.{fits_table}
use Rattle.estimate.specs.Merging.{part, comes, fills}
use Rattle.estimate.proofs.Following.{workable_at}
use Rattle.tables.proofs.Scratch.{scratch_more, scratch_rising, slot_reads, stretch_long}
use Rattle.estimate.proofs.Runs.{state_has, to_start, to_passes, to_on}
use Rattle.estimate.proofs.Adding.{added_none, added_rising, added_room, made_next, made_all}
use Rattle.estimate.proofs.merge.put_whole.Goals as goal

pub loop-i-init : goal.loop-i-init
loop-i-init c = let a = c.args in
    let S = take a.m (drop a.from (table_of a.work.now)) in
    let X = take a.n (drop 4096 (table_of a.work.now)) in (
      rw (added_none (map (part a.ways a.x a.k) S) X) (record { count = c.requires.4; table = refl; slots = refl }),
      rw (added_none (map (part a.ways a.x a.k) S) X) (to_start a.ways a.x a.k S X a.near (omega (arith, c.requires.4, c.requires.10)) c.requires.11),
    )

pub put_next-so_far-requires : goal.put_next-so_far-requires
put_next-so_far-requires c = let a = c.args in let p = c.requires in
    let l = c.loop-i in
    let S = take a.m (drop a.from (table_of a.work.now)) in
    let X = take a.n (drop 4096 (table_of a.work.now)) in
    let long = stretch_long a.from a.m (table_of a.work.now) (omega (arith, fits_table a.work.now 4096 (omega arith))) in
    let low : l.i < length S = omega (arith, long, c.loop-i-test.true) in
    let read = slot_reads listing _ _ _ _ l.invariant.0 a.from a.m l.i _ (omega (arith, c.loop-i-test.true)) p.2 c.load-s.ensures in
    let next = made_next (part a.ways a.x a.k) S X l.i c.load-s.result low read in (
      p.0,
      rw read (workable_at a.ways a.x S p.8 l.i),
      p.1,
      rw read (state_has (λ s. comes (hits a.x s.mask) (fills a.ways a.x s) (shared s.mask a.x.mates) a.k ≡ true) S l.i low p.9),
      omega (arith, l.invariant.1.0, l.invariant.0.count),
      omega (arith, l.invariant.0.count, added_room (map (part a.ways a.x a.k) S) X l.i, p.6, l.auto.work, p.3),
      rw l.invariant.0.table (omega (arith, ap length next, added_room (map (part a.ways a.x a.k) S) X (l.i + 1), p.6, l.auto.work, p.3)),
      scratch_rising listing _ _ _ _ l.invariant.0 (added_rising (map (part a.ways a.x a.k) S) X l.i p.5),
      λ w n. rw l.invariant.0.table (to_passes a.ways a.x a.k S p.1 p.0.1 l.i _ _ l.invariant.1 c.load-s.result low read w n p.7),
      p.12,
    )

pub loop-i-preserved : goal.loop-i-preserved
loop-i-preserved c = let a = c.args in let p = c.requires in
    let l = c.loop-i in
    let S = take a.m (drop a.from (table_of a.work.now)) in
    let X = take a.n (drop 4096 (table_of a.work.now)) in
    let long = stretch_long a.from a.m (table_of a.work.now) (omega (arith, fits_table a.work.now 4096 (omega arith))) in
    let low : l.i < length S = omega (arith, long, c.loop-i-test.true) in
    let read = slot_reads listing _ _ _ _ l.invariant.0 a.from a.m l.i _ (omega (arith, c.loop-i-test.true)) p.2 c.load-s.ensures in
    let next = made_next (part a.ways a.x a.k) S X l.i c.load-s.result low read in
    let put = c.put_next-so_far in (
      rw (← next) (scratch_more listing _ _ _ _ l.invariant.0 _ _ _ put.ensures.0),
      rw (← next) (to_on a.ways a.x a.k S p.1 p.0.1 l.i _ _ l.invariant.1 _ l.invariant.0.table c.load-s.result low read _ put.ensures.1),
    )

pub returns : goal.returns
returns c = let a = c.args in let l = c.loop-i in
    let S = take a.m (drop a.from (table_of a.work.now)) in
    let past : l.i ≡ a.m = omega arith in
    rw (← made_all (part a.ways a.x a.k) S (take a.n (drop 4096 (table_of a.work.now))) l.i (omega (arith, length-take a.m (drop a.from (table_of a.work.now))))) l.invariant.0
