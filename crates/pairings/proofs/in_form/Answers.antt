-- `in_form` counts the rows down, entry by entry.
use Rattle.pairings.proofs.Rows.{entry_short, entry_fits_lem, entry_end}
use Rattle.pairings.proofs.in_form.Goals as goal

pub returns-then-left-numbers : goal.returns-then-left-numbers
returns-then-left-numbers c =
    entry_short _ _ _ _ c.loop-many.invariant c.loop-many-test.true _ c.is_few.ensures c.if-not-is_few.false _ c.numbers_of-numbers.ensures c.if-left-numbers.true

pub loop-many-preserved : goal.loop-many-preserved
loop-many-preserved c =
    entry_fits_lem _ _ _ _ c.loop-many.invariant c.loop-many-test.true _ c.is_few.ensures c.if-not-is_few.false _ c.numbers_of-numbers.ensures c.if-left-numbers.false

pub returns : goal.returns
returns c = entry_end _ _ _ _ c.loop-many.invariant c.loop-many-test.false
