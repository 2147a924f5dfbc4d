-- `write_trace` meets its contract: one law of what a call leaves for each return.
use borrow.Author.Rules.{rules}
use Rattle.recorder.proofs.Calls.{write_too_many, write_no_room, write_done}
use Rattle.recorder.proofs.write_trace.Goals as goal

pub returns-then-accesses-gt4096 : goal.returns-then-accesses-gt4096
returns-then-accesses-gt4096 c = write_too_many _ _ c.if-accesses-gt4096.true

pub returns-then-trace-blocks : goal.returns-then-trace-blocks
returns-then-trace-blocks c = write_no_room _ _ c.if-accesses-gt4096.false c.if-trace-blocks.true

pub returns : goal.returns
returns c =
    write_done _ _ c.if-accesses-gt4096.false c.if-trace-blocks.false _ _ c.write_all.ensures (search rules) (c.fill.ensures.after (λ y p. p))
