-- `joins_to` adds the joins of one node after the other, which are no more than the edges.
use Prim.Native.Nat.{suc}
use native.Mathlib.Numerals.{add-one}
use native.Mathlib.Omega.{arith}
use Rattle.rules.specs.Input.{edges_of}
use Rattle.pairings.proofs.Joins.{joins_most, joins_none, joins_next}
use Rattle.pairings.proofs.joins_to.Goals as goal

pub loop-j-init : goal.loop-j-init
loop-j-init c = joins_none _

pub overflow_add-joins : goal.overflow_add-joins
overflow_add-joins c =
    let l = c.loop-j in
    let es = c.args.edges.now in
    let next = joins_next (edges_of es) l.j _ _ l.invariant c.joins_at-joins.ensures in
    omega (arith, next, joins_most es (suc l.j))

pub loop-j-preserved : goal.loop-j-preserved
loop-j-preserved c = rw (add-one c.loop-j.j) (joins_next _ c.loop-j.j _ _ c.loop-j.invariant c.joins_at-joins.ensures)
