-- `put_shares` puts what becomes of the states one by one.
use mathlib.Core.Path.{refl, ap}
use Prim.Native.Nat.{◌+◌, ◌*◌}
use native.Mathlib.Nat.{le_refl}
use native.Mathlib.Omega.{arith}
use lib.ListN.{length, get_or, take, drop}
use Rattle.rules.specs.Table.{listing, state_at}
use Rattle.words.specs.Tables.{table_of}
use Rattle.words.proofs.Tables.{fits_table}
use Rattle.tables.proofs.Scratch.{scratch_more, scratch_rising}
use Rattle.estimate.specs.Sharing.{share_of}
use Rattle.estimate.proofs.Adding.{added, added_none, added_next, added_all, added_rising, added_room}
use Rattle.estimate.proofs.Laying.{onto_start, onto_next, shares_of, shares_contents, shares_long, part_fits, found}
use Rattle.estimate.proofs.shares.put_shares.Goals as goal

pub loop-i-init : goal.loop-i-init
loop-i-init c = let a = c.args in let p = c.requires in
    let W = table_of a.work.now in
    let U = shares_of a.to a.times (a.from + a.start) a.m a.start W a.parts.now in
    let X = take a.n (drop 4096 W) in (
      rw (added_none U X) (record { count = p.4; table = refl; slots = refl }),
      rw (added_none U X) (onto_start U a.to (shares_contents a.to a.times (a.from + a.start) a.m a.start W a.parts.now) X a.near (omega (arith, p.0, p.4)) p.10),
    )

pub overflow_mul-units : goal.overflow_mul-units
overflow_mul-units c = let a = c.args in
    omega (arith, part_fits a.to a.times (a.from + a.start) a.m a.start (table_of a.work.now) a.parts.now c.requires.9 c.loop-i.i c.loop-i-test.true)

pub add_share-so_far-requires : goal.add_share-so_far-requires
add_share-so_far-requires c = let a = c.args in let p = c.requires in let l = c.loop-i in let taken = c.loop-i-test.true in
    let W = table_of a.work.now in
    let U = shares_of a.to a.times (a.from + a.start) a.m a.start W a.parts.now in
    let X = take a.n (drop 4096 W) in
    let u = share_of a.to (state_at (table_of l.work) (a.from + a.start + l.i)) (get_or a.parts.now (a.start + l.i) 0 * a.times) in
    let f = found a.to a.times (a.from + a.start) a.m a.start W a.parts.now p.1 (fits_table a.work.now 4096 (omega (arith, p.3))) p.2 p.8 _ _ (table_of l.work) l.invariant.0 l.i taken in (
      omega (arith, taken, p.1),
      omega (arith, l.invariant.1.0, l.invariant.0.count),
      omega (arith, l.invariant.0.count, added_room U X l.i, p.6, l.auto.work, p.3),
      rw l.invariant.0.table (omega (arith, ap length (added_next U X l.i u f.low f.share), added_room U X (l.i + 1), p.6, l.auto.work, p.3)),
      scratch_rising listing _ _ _ _ l.invariant.0 (added_rising U X l.i p.5),
      f.misses,
      λ some. rw (l.invariant.0.table, f.share) (l.invariant.1.1 l.i (le_refl l.i) f.low),
    )

pub loop-i-preserved : goal.loop-i-preserved
loop-i-preserved c = let a = c.args in let p = c.requires in let l = c.loop-i in
    let W = table_of a.work.now in
    let U = shares_of a.to a.times (a.from + a.start) a.m a.start W a.parts.now in
    let X = take a.n (drop 4096 W) in
    let u = share_of a.to (state_at (table_of l.work) (a.from + a.start + l.i)) (get_or a.parts.now (a.start + l.i) 0 * a.times) in
    let f = found a.to a.times (a.from + a.start) a.m a.start W a.parts.now p.1 (fits_table a.work.now 4096 (omega (arith, p.3))) p.2 p.8 _ _ (table_of l.work) l.invariant.0 l.i c.loop-i-test.true in
    let more = added_next U X l.i u f.low f.share in
    let put = c.add_share-so_far in (
      rw (← more) (scratch_more listing _ _ _ _ l.invariant.0 _ _ _ put.ensures.0),
      rw (← more) (onto_next U p.7 l.i u f.low f.share (added U X l.i) l.so_far.at _ l.invariant.1 (rw l.invariant.0.table at put.ensures.1)),
    )

pub returns : goal.returns
returns c = let a = c.args in let p = c.requires in let l = c.loop-i in
    let W = table_of a.work.now in
    let U = shares_of a.to a.times (a.from + a.start) a.m a.start W a.parts.now in
    let long = shares_long a.to a.times (a.from + a.start) a.m a.start W a.parts.now p.1 (fits_table a.work.now 4096 (omega (arith, p.3))) p.2 in
    rw (← added_all U (take a.n (drop 4096 W)) l.i (omega (arith, long, c.loop-i-test.false))) l.invariant.0
