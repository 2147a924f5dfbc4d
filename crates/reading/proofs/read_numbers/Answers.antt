-- `read_numbers` meets its contract: a room that is too short is cleared, and so is one whose text is malformed.
use native.Mathlib.Omega.{arith}
use mathlib.Core.Path.{ap, ◌∙◌}
use mathlib.Core.Bool.{not}
use Rattle.reading.proofs.Calls.{nothing_read, all_read}
use Rattle.reading.proofs.read_numbers.Goals as goal

pub returns-then-is_none : goal.returns-then-is_none
returns-then-is_none c =
    nothing_read _ _ (omega arith) _ _ c.scan-read.ensures (c.is_none.ensures ∙ ap not c.if-is_none.true) _ (c.fill-then-is_none.ensures.after (λ y p. p)) c.scan-read.auto.numbers

pub returns-else-is_none : goal.returns-else-is_none
returns-else-is_none c = all_read _ _ (omega arith) _ _ c.scan-read.ensures (c.is_none.ensures ∙ ap not c.if-is_none.false)
