-- `gather_each` takes the states one by one.
use mathlib.Core.Path.{◌≡◌, ◌∙◌}
use Prim.Native.Nat.{◌*◌, ◌≤◌}
use native.Mathlib.Omega.{arith}
use lib.ListN.{length, take, drop, length-take}
use Rattle.words.specs.Tables.{table_of}
use Rattle.words.proofs.Tables.{fits_table}
use Rattle.rules.specs.Table.{listing}
use Rattle.tables.proofs.Scratch.{scratch_empty, scratch_more, scratch_rising, slot_reads, stretch_long}
use Rattle.rules.proofs.Splitting.{units_added}
use Rattle.rules.specs.Step.{successors}
use Rattle.rules.proofs.Table.{states_lawful}
use Rattle.tables.proofs.Following.{gathered_none, gathered_rising, gathered_next, gathered_room, gathered_all}
use Rattle.states.proofs.Steps.{over_so}
use Rattle.estimate.proofs.Following.{follows_few, aside_start, aside_next, aside_all, workable_at}
use Rattle.estimate.proofs.access.gather_each.Goals as goal

pub loop-i-init : goal.loop-i-init
loop-i-init c = let a = c.args in
    (rw (gathered_none listing (successors a.ways a.x) _) (scratch_empty (table_of a.work.now)), aside_start a.ways a.x (take a.m (drop a.from (table_of a.work.now))) _ c.requires.5)

pub follow_to_scratch-n-requires : goal.follow_to_scratch-n-requires
follow_to_scratch-n-requires c = let l = c.loop-i in
    let p = c.requires in
    let a = c.args in
    let S = take a.m (drop a.from (table_of a.work.now)) in
    let few : l.n ≤ l.i * 17 = gathered_room listing (successors a.ways a.x) S a.ways l.i _ l.invariant.0.count p.1 (follows_few a.ways a.x S l.i p.6) in
    let read = slot_reads listing _ _ _ _ l.invariant.0 a.from a.m l.i _ (omega arith) p.3 c.load-s.ensures in (
      p.0,
      rw read (workable_at a.ways a.x S p.6 l.i),
      p.1,
      omega arith,
      scratch_rising listing _ _ _ _ l.invariant.0 (gathered_rising listing (successors a.ways a.x) S states_lawful l.i),
    )

pub loop-i-preserved : goal.loop-i-preserved
loop-i-preserved c = let l = c.loop-i in
    let p = c.requires in
    let a = c.args in
    let S = take a.m (drop a.from (table_of a.work.now)) in
    let long = stretch_long a.from a.m (table_of a.work.now) (omega (arith, fits_table a.work.now 4096 (omega arith))) in
    let followed = c.follow_to_scratch-n in
    let read = slot_reads listing _ _ _ _ l.invariant.0 a.from a.m l.i _ (omega arith) p.3 c.load-s.ensures in (
      rw (← gathered_next listing (successors a.ways a.x) S l.i c.load-s.result (omega arith) read)
          (scratch_more listing _ _ _ _ l.invariant.0 _ _ _ followed.ensures),
      aside_next a.ways a.x S _ l.i _ _ _ _ (omega arith) read l.invariant.1 (over_so a.x p.0.0 p.0.1 _ _ _ c.left_over.ensures) (units_added _ _ _ c.add-count.ensures),
    )

pub returns : goal.returns
returns c = let l = c.loop-i in
    let a = c.args in
    let S = take a.m (drop a.from (table_of a.work.now)) in
    let past : l.i ≡ a.m = omega arith in
    let short : length S ≤ l.i = omega (arith, length-take a.m (drop a.from (table_of a.work.now))) in
    record { in_scratch = rw (← gathered_all listing (successors a.ways a.x) S l.i short) l.invariant.0; aside_value = l.invariant.1 ∙ aside_all a.ways a.x S _ l.i short }
