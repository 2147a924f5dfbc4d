-- `stands_first` tests the mask, and then the state before, if there is one.
use borrow.Author.Tests.{le-ltb}
use Rattle.words.specs.Tables.{table_of}
use Rattle.searches.proofs.Tests.{leads_all, leads_next}
use Rattle.searches.proofs.partner.stands_first.Goals as goal

pub returns-then-s-gt65535 : goal.returns-then-s-gt65535
returns-then-s-gt65535 c = rw (le-ltb _ 65536 c.if-s-gt65535.true)

pub returns-then-at-eq0 : goal.returns-then-at-eq0
returns-then-at-eq0 c =
    let a = c.args in
    leads_all a.s (table_of a.words.now) a.at c.if-s-gt65535.false c.if-at-eq0.true

pub returns : goal.returns
returns c =
    let a = c.args in
    leads_next a.s (table_of a.words.now) a.at _ _ c.if-s-gt65535.false c.if-at-eq0.false c.load.ensures
    c.is_alike.ensures
