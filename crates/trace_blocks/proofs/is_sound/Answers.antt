-- `is_sound` meets its contract: what has not 512 bytes is no block, and a block is judged by its bytes.
use mathlib.Core.Path.{◌∙◌}
use Rattle.trace_blocks.proofs.AnyBytes.{no_block, judged_block}
use Rattle.trace_blocks.proofs.is_sound.Goals as goal

pub returns-then-block-ne512 : goal.returns-then-block-ne512
returns-then-block-ne512 c = no_block _ c.if-block-ne512.true _

pub returns : goal.returns
returns c = c.bytes_sound.ensures ∙ judged_block _ c.if-block-ne512.false _
