-- `put_head_words` meets its contract: a word and a number, and another word and number behind them.
use Rattle.writing.proofs.Putting.{put_both_then}
use Rattle.lines.specs.Lines.{head_words}
use Rattle.lines.proofs.put_head_words.Goals as goal

pub returns : goal.returns
unfolding head_words
returns c =
    put_both_then _ _ _ _ _ c.put_named-counted.ensures _ _ _ _ c.put_named.ensures
