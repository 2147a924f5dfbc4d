-- `closer` compares the blocks that are shared, then the distance in misses, then that in hits.
use Rattle.best.proofs.Folding.{shares_more, shares_fewer, misses_nearer, misses_further, by_hits}
use Rattle.best.proofs.fold.closer.Goals as goal

pub returns-then-b-a : goal.returns-then-b-a
returns-then-b-a c = shares_more c.args.a c.args.b c.if-b-a.true

pub returns-then-a-b : goal.returns-then-a-b
returns-then-a-b c = shares_fewer c.args.a c.args.b c.if-a-b.true

pub returns-then-a-b-2 : goal.returns-then-a-b-2
returns-then-a-b-2 c = misses_nearer c.args.a c.args.b c.if-a-b.false c.if-b-a.false c.if-a-b-2.true

pub returns-then-b-a-2 : goal.returns-then-b-a-2
returns-then-b-a-2 c = misses_further c.args.a c.args.b c.if-a-b.false c.if-b-a.false c.if-b-a-2.true

pub returns : goal.returns
returns c = by_hits c.args.a c.args.b c.if-a-b.false c.if-b-a.false c.if-b-a-2.false c.if-a-b-2.false
