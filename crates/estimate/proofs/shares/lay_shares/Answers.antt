-- `lay_shares` lays what becomes of the states one behind the other. All of it has higher contents than the table, and so that is what it is when it is added.
use mathlib.Core.Path.{refl, ap, ◌∙◌}
use mathlib.Core.List.{List, [], ◌∷◌, ◌++◌}
use Prim.Native.Nat.{◌+◌, ◌*◌}
use native.Mathlib.Omega.{arith}
use lib.ListN.{length, get_or, take, drop}
use Rattle.rules.specs.declared.State.{State}
use Rattle.rules.specs.Table.{present, state_at}
use Rattle.words.specs.Tables.{table_of}
use Rattle.words.proofs.Tables.{fits_table}
use Rattle.estimate.specs.Sharing.{share_of}
use Rattle.estimate.proofs.Laying.{laid_none, laid_next, laid_room, laid_all, laid_added, scratch_then, shares_of, shares_contents, shares_long, part_fits, found}
use Rattle.estimate.proofs.shares.lay_shares.Goals as goal

pub loop-i-init : goal.loop-i-init
loop-i-init c = let a = c.args in
    let W = table_of a.work.now in
    let U = shares_of a.to a.times (a.from + a.start) a.m a.start W a.parts.now in
    rw (laid_none U (take a.n (drop 4096 W))) (record { count = c.requires.3; table = refl; slots = refl })

pub overflow_mul-units : goal.overflow_mul-units
overflow_mul-units c = let a = c.args in
    omega (arith, part_fits a.to a.times (a.from + a.start) a.m a.start (table_of a.work.now) a.parts.now c.requires.8 c.loop-i.i c.loop-i-test.true)

pub lay-states-requires : goal.lay-states-requires
lay-states-requires c = let a = c.args in let p = c.requires in let l = c.loop-i in let taken = c.loop-i-test.true in
    let W = table_of a.work.now in
    let U = shares_of a.to a.times (a.from + a.start) a.m a.start W a.parts.now in
    let X = take a.n (drop 4096 W) in
    let u = share_of a.to (state_at (table_of l.work) (a.from + a.start + l.i)) (get_or a.parts.now (a.start + l.i) 0 * a.times) in
    let f = found a.to a.times (a.from + a.start) a.m a.start W a.parts.now p.0 (fits_table a.work.now 4096 (omega (arith, p.2))) p.1 p.7 _ _ (table_of l.work) l.invariant l.i taken in
    let more = ap (λ (Y : List State). Y ++ present (u ∷ [])) l.invariant.table ∙ laid_next U X l.i u f.low f.share in
    let all = laid_added a.to U X (shares_contents a.to a.times (a.from + a.start) a.m a.start W a.parts.now) p.6 p.9 in (
      omega (arith, taken, p.0),
      omega (arith, l.invariant.count, laid_room U X l.i, ap length all, p.5, l.auto.work, p.2),
      omega (arith, ap length more, laid_room U X (l.i + 1), ap length all, p.5, l.auto.work, p.2),
      f.misses,
    )

pub loop-i-preserved : goal.loop-i-preserved
loop-i-preserved c = let a = c.args in let p = c.requires in let l = c.loop-i in
    let W = table_of a.work.now in
    let U = shares_of a.to a.times (a.from + a.start) a.m a.start W a.parts.now in
    let X = take a.n (drop 4096 W) in
    let u = share_of a.to (state_at (table_of l.work) (a.from + a.start + l.i)) (get_or a.parts.now (a.start + l.i) 0 * a.times) in
    let f = found a.to a.times (a.from + a.start) a.m a.start W a.parts.now p.0 (fits_table a.work.now 4096 (omega (arith, p.2))) p.1 p.7 _ _ (table_of l.work) l.invariant l.i c.loop-i-test.true in
    rw (← laid_next U X l.i u f.low f.share) (scratch_then (λ Y. Y ++ present (u ∷ [])) _ _ _ _ l.invariant _ _ c.lay-states.ensures)

pub returns : goal.returns
returns c = let a = c.args in let p = c.requires in let l = c.loop-i in
    let W = table_of a.work.now in
    let U = shares_of a.to a.times (a.from + a.start) a.m a.start W a.parts.now in
    let X = take a.n (drop 4096 W) in
    let all = laid_added a.to U X (shares_contents a.to a.times (a.from + a.start) a.m a.start W a.parts.now) p.6 p.9 in
    let long = shares_long a.to a.times (a.from + a.start) a.m a.start W a.parts.now p.0 (fits_table a.work.now 4096 (omega (arith, p.2))) p.1 in
    rw (← all, ← laid_all U X l.i (omega (arith, long, c.loop-i-test.false))) l.invariant
