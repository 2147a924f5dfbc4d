-- `insert_head` makes room from the last place down.
use mathlib.Core.Path.{◌≡◌}
use Prim.Native.Nat.{◌+◌, ◌-◌}
use native.Mathlib.Omega.{arith}
use Rattle.heads.proofs.Rows.{making_start, making_stops, making_down, making_end, no_room}
use Rattle.heads.proofs.insert_head.Goals as goal

pub returns-then-heads-count : goal.returns-then-heads-count
returns-then-heads-count c = no_room _ _ _ c.if-heads-count.true

pub loop-j-init : goal.loop-j-init
loop-j-init c = making_start _ _ _ (omega (arith, c.if-heads-count.false))

pub returns-then-other-head : goal.returns-then-other-head
returns-then-other-head c =
    let l = c.loop-j in
    let behind : l.j - 1 + 1 ≡ l.j = omega arith in
    rw behind (making_stops _ _ _ l.heads l.j c.loop-j-test.true l.invariant c.if-other-head.true)

pub loop-j-preserved : goal.loop-j-preserved
loop-j-preserved c =
    let l = c.loop-j in
    let behind : l.j - 1 + 1 ≡ l.j = omega arith in
    rw behind (making_down _ _ _ l.heads l.j c.loop-j-test.true l.invariant c.if-other-head.false)

pub returns : goal.returns
returns c = let l = c.loop-j in making_end _ _ _ l.heads l.j l.invariant (omega (arith, c.loop-j-test.false))
