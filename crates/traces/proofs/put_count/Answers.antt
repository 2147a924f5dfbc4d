-- `put_count` meets its contract: the word and the number, and the newline behind them.
use Rattle.writing.proofs.Putting.{put_then}
use Rattle.traces.specs.Traces.{named_line}
use Rattle.traces.proofs.put_count.Goals as goal

pub returns : goal.returns
unfolding named_line
returns c =
    put_then _ _ _ _ _ c.put_named-end.ensures _ _ _ c.put_byte.ensures
