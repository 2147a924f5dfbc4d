-- `put_longest` meets its contract: a word and a number behind the two counts, and the newline.
use Rattle.writing.proofs.Putting.{put_then, put_both_then}
use Rattle.lines.specs.Cores.{longest_line}
use Rattle.lines.proofs.put_longest.Goals as goal

pub returns : goal.returns
unfolding longest_line
returns c =
    put_then _ _ _ _ _ (put_both_then _ _ _ _ _ c.put_head_words-counted.ensures _ _ _ _ c.put_named-end.ensures) _ _ _ c.put_byte.ensures
