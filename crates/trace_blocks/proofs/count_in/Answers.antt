-- `count_in` meets its contract: what has not 512 bytes counts nothing, and a block says it in two bytes.
use mathlib.Core.Path.{◌∙◌}
use Rattle.trace_blocks.proofs.AnyBytes.{none_counted, counted_block}
use Rattle.trace_blocks.proofs.count_in.Goals as goal

pub returns-then-block-ne512 : goal.returns-then-block-ne512
returns-then-block-ne512 c = none_counted _ c.if-block-ne512.true

pub returns : goal.returns
returns c = c.pair_at.ensures ∙ counted_block _ c.if-block-ne512.false
