-- `put_core_line` meets its contract: three words, each with its number, and the newline behind them.
use Rattle.writing.proofs.Putting.{put_then, put_both_then}
use Rattle.lines.specs.Cores.{core_line}
use Rattle.lines.proofs.cores.put_core_line.Goals as goal

pub returns : goal.returns
unfolding core_line
returns c =
    let two = put_both_then _ _ _ _ _ c.put_named-first.ensures _ _ _ _ c.put_named-second.ensures in
    let three = put_both_then _ _ _ _ _ two _ _ _ _ c.put_named-third.ensures in
    put_then _ _ _ _ _ three _ _ _ c.put_byte.ensures
