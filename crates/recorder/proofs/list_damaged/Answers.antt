-- `list_damaged` meets its contract: one law of what a call leaves for each return.
use borrow.Author.Rules.{rules}
use Rattle.recorder.proofs.Calls.{list_not_whole, list_no_room, list_done}
use Rattle.recorder.proofs.list_damaged.Goals as goal

pub returns-then-trace-ne0 : goal.returns-then-trace-ne0
returns-then-trace-ne0 c = list_not_whole _ _ c.if-trace-ne0.true

pub returns-then-places-trace : goal.returns-then-places-trace
returns-then-places-trace c = list_no_room _ _ c.if-trace-ne0.false c.if-places-trace.true

pub returns : goal.returns
returns c =
    list_done _ _ c.if-trace-ne0.false c.if-places-trace.false _ _ _ c.list_all-count.ensures (search rules) (c.fill.ensures.after (λ y p. p))
