-- `access_in` meets its contract: there is none where there is no block, or past its last place.
use mathlib.Core.Path.{◌∙◌}
use Rattle.trace_blocks.proofs.AnyBytes.{none_there, past_places, access_there}
use Rattle.trace_blocks.proofs.access_in.Goals as goal

pub returns-then-block-ne512 : goal.returns-then-block-ne512
returns-then-block-ne512 c = none_there _ c.if-block-ne512.true _

pub returns-then-i-ge125 : goal.returns-then-i-ge125
returns-then-i-ge125 c = past_places _ c.if-block-ne512.false _ c.if-i-ge125.true

pub returns : goal.returns
returns c = c.four_at.ensures ∙ access_there _ c.if-block-ne512.false _ c.if-i-ge125.false
