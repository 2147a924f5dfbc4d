-- `sum_live` adds up contents after contents.
use Rattle.std.proofs.Common.{arith}
use Rattle.tight_rows.proofs.Totals.{more_plain}
use Rattle.tight_tables.proofs.Copying.{mask_read, units_read, sum_fits, one_summed, all_summed}
use Rattle.tight_tables.proofs.copy.sum_live.Goals as goal

pub loop-k-preserved : goal.loop-k-preserved
loop-k-preserved c =
    let l = c.loop-k in
    let a = c.args in
    let mask = mask_read a.o a.from a.live a.work.now c.requires.0 l.k c.loop-k-test.true l.work l.invariant in
    let units = units_read a.o a.from a.live a.work.now c.requires.0 l.k c.loop-k-test.true l.work l.invariant in
    let put = more_plain _ _ _ _ c.add_units.ensures (sum_fits a.o a.from a.live a.work.now c.requires.0 l.k c.loop-k-test.true l.work l.invariant _ _ mask units c.requires.1) in
    rw put (one_summed a.o a.from a.live a.work.now c.requires.0 l.k c.loop-k-test.true l.work l.invariant _ _ mask units)

pub returns : goal.returns
returns c =
    let l = c.loop-k in
    let a = c.args in
    all_summed a.o a.from a.live a.work.now c.requires.0 l.k l.work (omega arith) l.invariant
