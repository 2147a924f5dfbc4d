-- `write_block` meets its contract: nothing is written where the room is no block or there are too many accesses, and otherwise the block.
use mathlib.Core.Path.{◌∙◌}
use Rattle.trace_blocks.proofs.AnyBytes.{not_put, too_many_put, block_put_lem}
use Rattle.trace_blocks.proofs.write_block.Goals as goal

pub returns-then-block-ne512 : goal.returns-then-block-ne512
returns-then-block-ne512 c = not_put _ c.if-block-ne512.true _ _

pub returns-then-accesses-gt125 : goal.returns-then-accesses-gt125
returns-then-accesses-gt125 c = too_many_put _ c.if-block-ne512.false _ _ c.if-accesses-gt125.true

pub returns : goal.returns
returns c =
    c.fill_block.ensures ∙ block_put_lem _ c.if-block-ne512.false _ _ c.if-accesses-gt125.false
