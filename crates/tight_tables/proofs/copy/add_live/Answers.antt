-- `add_live` adds row after row.
use Rattle.tight_tables.proofs.Copying.{row_ready, row_brought}
use Rattle.tight_tables.proofs.copy.add_live.Goals as goal

pub add_words-requires : goal.add_words-requires
add_words-requires c =
    let l = c.loop-k in
    let a = c.args in
    row_ready a.o a.from a.live a.work.now c.requires l.k c.loop-k-test.true l.work l.invariant _ c.live_row-to.ensures

pub loop-k-preserved : goal.loop-k-preserved
loop-k-preserved c =
    let l = c.loop-k in
    let a = c.args in
    row_brought a.o a.from a.live a.work.now c.requires l.k c.loop-k-test.true l.work l.invariant _ c.live_row-to.ensures _ c.add_words.ensures
