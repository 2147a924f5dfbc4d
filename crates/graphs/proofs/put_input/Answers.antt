-- `put_input` meets its contract: five lines, one behind the other.
use Rattle.writing.proofs.Putting.{put_then}
use Rattle.graphs.specs.Listings.{input_lines}
use Rattle.graphs.proofs.put_input.Goals as goal

pub returns : goal.returns
unfolding input_lines
returns c =
    let two = put_then _ _ _ _ _ c.put_row-head.ensures _ _ _ c.put_row-blocks.ensures in
    let three = put_then _ _ _ _ _ two _ _ _ c.put_row-nodes.ensures in
    let four = put_then _ _ _ _ _ three _ _ _ c.put_row-all.ensures in
    put_then _ _ _ _ _ four _ _ _ c.put_row.ensures
