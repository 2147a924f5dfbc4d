-- `put_refused` meets its contract: the word and the number, and the newline behind them.
use Rattle.writing.specs.Writing.{refused_line}
use Rattle.writing.proofs.Putting.{put_then}
use Rattle.writing.proofs.put_refused.Goals as goal

pub returns : goal.returns
unfolding refused_line
returns c =
    put_then _ _ _ _ _ c.put_named-end.ensures _ _ _ c.put_byte.ensures
