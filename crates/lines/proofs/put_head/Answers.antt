-- `put_head` meets its contract: the newline behind the two counts.
use Rattle.writing.proofs.Putting.{put_then}
use Rattle.lines.proofs.put_head.Goals as goal

pub returns : goal.returns
returns c =
    put_then _ _ _ _ _ c.put_head_words-end.ensures _ _ _ c.put_byte.ensures
