-- `put_cycles` meets its contract: the first line, and the lines of every core from the counts of the spread.
use native.Mathlib.Omega.{arith}
use lib.ListN.{take}
use Rattle.rules.proofs.Questions.{table_largest}
use Rattle.words.specs.Tables.{table_of}
use Rattle.writing.proofs.Putting.{put_is, put_then}
use Rattle.text.proofs.Lines.{counted_long, counted_cores}
use Rattle.text.proofs.working.put_cycles.Goals as goal

-- there are no more counts than a table can have
pub slice_bounds-put_cores-end : goal.slice_bounds-put_cores-end
slice_bounds-put_cores-end c =
    omega (arith, c.count_all-n.ensures.count, table_largest (take c.args.states (table_of c.args.res.now)) c.requires.0, c.count_all-n.auto.counts)

pub slice_bounds-put_cores-end-2 : goal.slice_bounds-put_cores-end-2
slice_bounds-put_cores-end-2 c = counted_long _ _ _ c.count_all-n.ensures

pub overflow_cast-longest : goal.overflow_cast-longest
overflow_cast-longest c = let (good, covered, path, room) = c.requires in omega (arith, path)

pub returns : goal.returns
returns c =
    put_then _ _ _ _ _ c.put_longest-head.ensures _ _ _
    (put_is _ _ _ _ _ _ c.put_cores.ensures (counted_cores _ _ _ c.requires.0 c.count_all-n.ensures _ c.requires.1))
