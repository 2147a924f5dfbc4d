-- `read_trace` meets its contract: one law of what a call leaves for each return.
use borrow.Author.Rules.{rules}
use Rattle.recorder.proofs.Calls.{read_not_whole, read_no_room, read_damaged, read_done, none_damaged}
use Rattle.recorder.proofs.read_trace.Goals as goal

pub returns-then-trace-ne0 : goal.returns-then-trace-ne0
returns-then-trace-ne0 c = read_not_whole _ _ c.if-trace-ne0.true

pub returns-then-accesses-blocks : goal.returns-then-accesses-blocks
returns-then-accesses-blocks c = read_no_room _ _ c.if-trace-ne0.false c.if-accesses-blocks.true

pub returns-then-first-blocks : goal.returns-then-first-blocks
returns-then-first-blocks c =
    read_damaged _ _ c.if-trace-ne0.false c.if-accesses-blocks.false _ c.first_damaged-first.ensures c.if-first-blocks.true

pub copy_all-count-requires : goal.copy_all-count-requires
copy_all-count-requires c = (search rules, none_damaged _ _ c.first_damaged-first.ensures c.if-first-blocks.false)

pub returns : goal.returns
returns c =
    let none = none_damaged _ _ c.first_damaged-first.ensures c.if-first-blocks.false in
    read_done _ _ c.if-trace-ne0.false c.if-accesses-blocks.false none _ _ _ c.copy_all-count.ensures (search rules) (c.fill.ensures.after (λ y p. p))
