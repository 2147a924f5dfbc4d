-- `put_curve` meets its contract: the first line, and a line for each count of the spread.
use native.Mathlib.Omega.{arith}
use lib.ListN.{take}
use Rattle.rules.proofs.Questions.{table_largest}
use Rattle.words.specs.Tables.{table_of}
use Rattle.writing.proofs.Putting.{put_is, put_then}
use Rattle.text.proofs.Lines.{counted_long, counted_lines}
use Rattle.text.proofs.working.put_curve.Goals as goal

-- there are no more counts than a table can have
pub slice_bounds-put_counts-end : goal.slice_bounds-put_counts-end
slice_bounds-put_counts-end c =
    omega (arith, c.count_all-n.ensures.count, table_largest (take c.args.states (table_of c.args.res.now)) c.requires.0, c.count_all-n.auto.counts)

pub slice_bounds-put_counts-end-2 : goal.slice_bounds-put_counts-end-2
slice_bounds-put_counts-end-2 c = counted_long _ _ _ c.count_all-n.ensures

pub returns : goal.returns
returns c =
    put_then _ _ _ _ _ c.put_head-head.ensures _ _ _ (put_is _ _ _ _ _ _ c.put_counts.ensures (counted_lines _ _ _ c.requires.0 c.count_all-n.ensures))
