-- `is_nearer` tests one thing after the other: another place, all blocks, the distance.
use borrow.Author.Tests.{eq-eqb}
use Rattle.searches.proofs.Tests.{nearer_so, nearer_not}
use Rattle.searches.proofs.partner.is_nearer.Goals as goal

pub returns-then-j-at : goal.returns-then-j-at
returns-then-j-at c = rw (eq-eqb _ _ c.if-j-at.true)

pub returns-then-holds_all : goal.returns-then-holds_all
returns-then-holds_all c =
    let a = c.args in
    nearer_so a.s _ _ a.at a.j a.near _ c.if-j-at.false c.load-t.ensures
    c.holds_all.ensures c.if-holds_all.true _ c.apart.ensures

pub returns : goal.returns
returns c =
    let a = c.args in
    nearer_not a.s _ _ a.at a.j a.near _ c.if-j-at.false c.load-t.ensures
    c.holds_all.ensures c.if-holds_all.false
