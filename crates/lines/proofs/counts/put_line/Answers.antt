-- `put_line` meets its contract: three numbers, each with what stands behind it.
use Rattle.writing.proofs.Putting.{put_both_then}
use Rattle.lines.specs.Lines.{count_line}
use Rattle.lines.proofs.counts.put_line.Goals as goal

pub returns : goal.returns
unfolding count_line
returns c =
    put_both_then _ _ _ _ _ (put_both_then _ _ _ _ _ c.put_entry-first.ensures _ _ _ _ c.put_entry-second.ensures) _ _ _ _ c.put_entry.ensures
