-- `put_named` meets its contract: one piece behind the other.
use Rattle.writing.proofs.Putting.{put_then}
use Rattle.writing.proofs.put_named.Goals as goal

pub returns : goal.returns
returns c =
    put_then _ _ _ _ _ c.put-end.ensures _ _ _ c.put_number.ensures
