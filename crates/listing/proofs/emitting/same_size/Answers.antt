-- `same_size` meets its contract: first the nodes are compared.
use borrow.Author.Tests.{eq-eqb, ne_eqb}
use Rattle.listing.proofs.emitting.same_size.Goals as goal

pub returns-then-a-b : goal.returns-then-a-b
returns-then-a-b c = rw (ne_eqb c.args.a.nodes c.args.b.nodes c.if-a-b.true)

pub returns : goal.returns
returns c = rw (eq-eqb c.args.a.nodes c.args.b.nodes c.if-a-b.false)
