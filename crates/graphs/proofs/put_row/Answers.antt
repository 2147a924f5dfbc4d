-- `put_row` meets its contract: the first number, and the others behind it.
use Rattle.writing.specs.Writing.{numbers_line}
use Rattle.writing.proofs.Putting.{put_then}
use Rattle.graphs.proofs.put_row.Goals as goal

pub returns : goal.returns
unfolding numbers_line
returns c =
    put_then _ _ _ _ _ c.put_entry-begun.ensures _ _ _ c.put_numbers_line.ensures
