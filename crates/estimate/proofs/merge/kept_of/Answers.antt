-- `kept_of` gives all units where no block can be lost, and otherwise the share of the other ways, which fits.
use native.Mathlib.Omega.{arith}
use Rattle.rules.proofs.Splitting.{split_part}
use Rattle.tables.proofs.Following.{shares_fit}
use Rattle.estimate.proofs.StreamParts.{kept_none, kept_share}
use Rattle.estimate.proofs.merge.kept_of.Goals as goal

pub returns-then-risk-eq0 : goal.returns-then-risk-eq0
returns-then-risk-eq0 c = let a = c.args in kept_none a.ways a.risk a.units.0 c.if-risk-eq0.true

pub overflow_mul-result : goal.overflow_mul-result
overflow_mul-result c =
    let p = c.split-share in
    shares_fit _ _ c.args.units.0 c.args.ways (omega (arith, c.requires.1)) (split_part p.result c.args.units c.args.ways p.ensures) c.requires.2

pub returns : goal.returns
returns c =
    let p = c.split-share in
    let a = c.args in
    kept_share a.ways a.risk a.units.0 _ _ c.if-risk-eq0.false c.size_of.ensures (split_part p.result a.units a.ways p.ensures)
