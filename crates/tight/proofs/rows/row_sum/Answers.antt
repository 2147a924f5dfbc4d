-- `row_sum` adds word by word.
use native.Mathlib.Omega.{arith}
use Rattle.tight_rows.specs.Room.{words_of}
use Rattle.tight_rows.proofs.Adding.{sum_fits_so_far}
use Rattle.tight.proofs.rows.row_sum.Goals as goal

pub overflow_add-sum-in-loop-j-2 : goal.overflow_add-sum-in-loop-j-2
overflow_add-sum-in-loop-j-2 c =
    let a = c.args in
    record { fits = sum_fits_so_far a.from a.select a.width (words_of a.work.now) c.loop-j.j c.loop-j.sum (omega arith) c.requires.2 c.loop-j.invariant }
