-- `keep_rows` goes row by row.
use Rattle.tight_ends.proofs.RowsKept.{kept_start, may_keep, kept_next}
use Rattle.tight_ends.proofs.ends.keep_rows.Goals as goal

pub loop-k-init : goal.loop-k-init
loop-k-init c =
    let a = c.args in
    kept_start a.contents a.cells a.slot a.bottom a.width a.rows a.work.now c.requires

pub keep_row-to-requires : goal.keep_row-to-requires
keep_row-to-requires c =
    let a = c.args in
    may_keep a.contents a.cells a.slot a.bottom a.width a.rows a.work.now c.requires c.loop-k.k c.loop-k.to c.loop-k.work c.loop-k-test.true c.loop-k.invariant

pub loop-k-preserved : goal.loop-k-preserved
loop-k-preserved c =
    let a = c.args in
    kept_next a.contents a.cells a.slot a.bottom a.width a.rows a.work.now c.requires c.loop-k.k c.loop-k.to c.loop-k.work c.loop-k-test.true
    c.loop-k.invariant _ _ c.keep_row-to.ensures
