-- `unlike_to` goes cell by cell.
use mathlib.Core.Path.{◌≡◌, refl, ap, ◌∙◌}
use Prim.Native.Nat.{◌-◌}
use native.Mathlib.Omega.{arith}
use Rattle.tight_rows.specs.Room.{words_of}
use Rattle.tight_ends.specs.Stage.{groups_of}
use Rattle.tight_ends.specs.Settling.{settled_filled, unlike_to}
use Rattle.tight_ends.proofs.EndsFound.{staging_part}
use Rattle.tight_ends.proofs.FilledFound.{unlike_to_next, unlike_to_fits}
use Rattle.tight_ends.proofs.settle.unlike_to.Goals as goal

pub loop-j-init : goal.loop-j-init
unfolding unlike_to
loop-j-init c = refl

pub unlike-sum-requires : goal.unlike-sum-requires
unlike-sum-requires c =
    let a = c.args in
    staging_part a.cells a.stage _ a.top a.work.now c.loop-j-test.true c.requires.stage

-- the sum with cell j
pub loop-j-preserved : goal.loop-j-preserved
loop-j-preserved c =
    let a = c.args in
    let i : c.beyond-i.result ≡ c.loop-j.j - a.bottom = c.beyond-i.ensures in
    unlike_to_next _ a.bottom c.loop-j.j c.loop-j.sum _ _ c.loop-j.invariant
    (c.filled_at-f.ensures ∙ c.requires.filled _ (omega (arith, c.requires.below)) ∙ ap (settled_filled (groups_of a.cells a.stage (words_of a.work.now)) a.bottom) i) c.unlike-sum.ensures

pub overflow_add-sum : goal.overflow_add-sum
overflow_add-sum c =
    let a = c.args in
    record { fits = unlike_to_fits a.cells a.stage a.bottom a.top c.loop-j.j a.work.now _ c.loop-j-test.true c.requires.stage (loop-j-preserved c) }
