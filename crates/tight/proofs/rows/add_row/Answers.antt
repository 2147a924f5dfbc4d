-- `add_row` adds word by word.
use native.Mathlib.Omega.{arith}
use Rattle.tight_rows.proofs.Adding.{sum_fits, part_fits, row_more}
use Rattle.tight.proofs.rows.add_row.Goals as goal

pub overflow_mul-work : goal.overflow_mul-work
overflow_mul-work c =
    let a = c.args in
    record { fits = part_fits a.from a.select a.to a.width a.times a.work.now c.loop-j.work c.requires c.loop-j.j (omega arith) c.loop-j.invariant }

pub overflow_add-work-in-loop-j-3 : goal.overflow_add-work-in-loop-j-3
overflow_add-work-in-loop-j-3 c =
    let a = c.args in
    record { fits = sum_fits a.from a.select a.to a.width a.times a.work.now c.loop-j.work c.requires c.loop-j.j (omega arith) c.loop-j.invariant }

pub loop-j-preserved : goal.loop-j-preserved
loop-j-preserved c =
    let a = c.args in
    row_more a.from a.select a.to a.width a.times a.work.now c.loop-j.work c.requires c.loop-j.j (omega arith) c.loop-j.invariant
