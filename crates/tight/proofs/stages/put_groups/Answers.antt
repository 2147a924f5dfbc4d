-- `put_groups` goes cell by cell.
use native.Mathlib.Omega.{arith}
use Rattle.tight.proofs.ColumnsCounted.{grouped_start, all_grouped, grouped_next}
use Rattle.tight.proofs.stages.put_groups.Goals as goal

pub loop-j-init : goal.loop-j-init
loop-j-init c =
    let a = c.args in
    grouped_start a.ways a.cells a.stage a.x a.fronts a.backs a.width a.work.now c.requires.3

pub put_group-requires : goal.put_group-requires
put_group-requires c =
    let p = c.requires.3 in
    omega (arith, p.narrow, p.inside, c.loop-j-test.true, c.loop-j.invariant.long)

pub loop-j-preserved : goal.loop-j-preserved
loop-j-preserved c =
    let a = c.args in
    let next = grouped_next a.ways a.cells a.stage a.x a.fronts a.backs a.width a.work.now c.requires.3 c.loop-j.j c.loop-j.work c.loop-j-test.true c.loop-j.invariant _ _
    c.filled_at-f.ensures c.filled_after.ensures in
    rw c.put_group.ensures next

pub returns : goal.returns
returns c =
    let a = c.args in
    let l = c.loop-j in
    all_grouped a.ways a.cells a.stage a.x a.fronts a.backs a.width a.work.now c.requires.3 l.j _ (omega arith) l.invariant

pub overflow_add-fronts : goal.overflow_add-fronts
overflow_add-fronts c = let p = c.requires.3 in omega (arith, p.front, p.inside, c.loop-j-test.true)

pub overflow_add-backs : goal.overflow_add-backs
overflow_add-backs c = let p = c.requires.3 in omega (arith, p.back, p.inside, c.loop-j-test.true)

pub overflow_add-stage : goal.overflow_add-stage
overflow_add-stage c = let p = c.requires.3 in omega (arith, p.narrow, p.inside, c.loop-j-test.true)

pub overflow_add-cells : goal.overflow_add-cells
overflow_add-cells c = let p = c.requires.3 in omega (arith, p.inside)

pub filled_after-requires : goal.filled_after-requires
filled_after-requires c = let p = c.requires in (p.0, p.1, p.2)
