-- `write_at` meets its contract: the block is written into the part of the trace that is lent for it.
use Rattle.recorder.proofs.Stored.{put_back}
use Rattle.recorder.proofs.packing.write_at.Goals as goal

pub returns : goal.returns
returns c =
    put_back _ _ _ _ _ _ c.requires.0 c.requires.1 c.write_block.ensures
