-- `sum_miss` adds what loses a block, and then what keeps them all.
use mathlib.Core.Path.{ap}
use Prim.Native.Nat.{ℕ, ◌+◌, ◌-◌, ◌*◌}
use native.Mathlib.Omega.{arith}
use Rattle.rules.specs.Contents.{with, shared}
use Rattle.tight_rows.proofs.Raising.{live_part}
use Rattle.tight_rows.proofs.Totals.{more_plain}
use Rattle.tight.proofs.Summing.{kept_part_fits, kept_fits, kept_sum_fits, miss_summed}
use Rattle.tight.proofs.sums.sum_miss.Goals as goal

pub overflow_sub-kept : goal.overflow_sub-kept
unfolding shared
overflow_sub-kept c = omega (arith, c.size_of.ensures, c.requires.ways)

pub overflow_mul-kept : goal.overflow_mul-kept
unfolding shared
overflow_mul-kept c =
    let a = c.args in
    record { fits = rw c.size_of.ensures (kept_part_fits a.ways a.x a.plan a.live a.mask 0 a.part a.stay a.work.now c.requires) }

pub overflow_add-kept : goal.overflow_add-kept
unfolding shared
overflow_add-kept c =
    let a = c.args in
    record { fits = rw c.size_of.ensures (kept_fits a.ways a.x a.plan a.live a.mask 0 a.part a.stay a.work.now c.requires) }

pub returns : goal.returns
unfolding shared
returns c =
    let a = c.args in
    let low = live_part (with a.mask a.x.place) a.live _ c.comes_to-end.ensures in
    let put =
    more_plain _ _ _ _ c.add_units.ensures
    (rw c.size_of.ensures (kept_sum_fits a.ways a.x a.plan a.live a.mask 0 a.part a.stay a.work.now c.requires _ c.sum_lost.ensures _ low)) in
    rw put
    (miss_summed a.ways a.x a.plan a.live a.mask 0 a.part a.stay a.work.now c.requires _ c.sum_lost.ensures _ _ c.comes_to-end.ensures
    (ap (λ (n : ℕ). (a.ways - n) * a.part + a.stay) c.size_of.ensures))
