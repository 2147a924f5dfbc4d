-- `pair_two` puts down a pair if both rows have units left.
use mathlib.Core.Path.{sym, ◌∙◌}
use Rattle.tight_pairs.proofs.Matched.{pair_none, pair_amount, pair_may, pair_made}
use Rattle.tight_pairs.proofs.pair_two.Goals as goal

pub returns-then-units-eq0 : goal.returns-then-units-eq0
returns-then-units-eq0 c =
    let a = c.args in
    let (ok, l, m) = c.requires in
    pair_none a.p a.i a.j a.n a.work.now ok (pair_amount a.p a.i a.j a.work.now l m ∙ sym c.min-units.ensures ∙ c.if-units-eq0.true)

pub put_pair-requires : goal.put_pair-requires
put_pair-requires c =
    let a = c.args in
    let (ok, l, m) = c.requires in
    pair_may a.p a.i a.j _ a.n a.work.now ok l m (pair_amount a.p a.i a.j a.work.now l m ∙ sym c.min-units.ensures) c.if-units-eq0.false

pub returns : goal.returns
returns c =
    let a = c.args in
    let (ok, l, m) = c.requires in
    pair_made a.p a.i a.j _ a.n a.work.now _ ok l m (pair_amount a.p a.i a.j a.work.now l m ∙ sym c.min-units.ensures) c.if-units-eq0.false
    c.put_pair.ensures
