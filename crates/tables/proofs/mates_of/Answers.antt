-- `mates_of` knows all of one set, and else goes from the last tracked block to the first.
use mathlib.Core.Path.{◌≡◌, ap, ◌∙◌}
use Prim.Native.Nat.{◌-◌}
use native.Mathlib.Omega.{arith}
use lib.ListN.{length}
use Rattle.tables.proofs.Masks.{one_shifted, set_end, set_next, set_small, all_mates}
use Rattle.tables.proofs.mates_of.Goals as goal

pub loop-i-init : goal.loop-i-init
loop-i-init c = let a = c.args in (omega arith, set_end a.sets a.tracked.now a.set)

pub loop-i-preserved : goal.loop-i-preserved
loop-i-preserved c =
    let a = c.args in
    let l = c.loop-i in
    let next = set_next a.sets a.tracked.now a.set l.i _ _ (omega arith) l.auto.i l.invariant.1 c.in_set.ensures in
    (rw next (set_small a.sets a.tracked.now a.set (l.i - 1) c.requires.0), next)

pub returns-then-sets-eq1 : goal.returns-then-sets-eq1
returns-then-sets-eq1 c =
    let one = c.if-sets-eq1.true in
    let first : c.args.set ≡ 0 = omega (arith, one, c.requires.2) in
    rw (one, first) (ap (◌- 1) (one_shifted (length c.args.tracked.now) (omega (arith, c.requires.0))) ∙ all_mates c.args.tracked.now)
