-- `put_damaged` meets its contract: the word and the number, a space, and the place with the newline behind it.
use Rattle.writing.proofs.Putting.{put_then, put_both_then}
use Rattle.traces.specs.Traces.{damaged_line}
use Rattle.traces.proofs.put_damaged.Goals as goal

pub returns : goal.returns
unfolding damaged_line
returns c =
    let two = put_then _ _ _ _ _ c.put_named-number.ensures _ _ _ c.put_byte-gap.ensures in
    put_both_then _ _ _ _ _ two _ _ _ _ c.put_entry.ensures
