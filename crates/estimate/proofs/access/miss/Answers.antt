-- `miss` adds the states with a block lost, the one that loses nothing, and the one of the units left over. There is room for all: where
-- every way of the set holds a block, the second has no units.
use mathlib.Core.Path.{ap}
use Prim.Native.Nat.{◌≤◌}
use native.Mathlib.Omega.{arith}
use Rattle.rules.specs.declared.State.{State}
use Rattle.rules.specs.Contents.{size}
use Rattle.rules.proofs.Splitting.{split_part, split_rest}
use Rattle.words.specs.Tables.{table_of}
use Rattle.words.proofs.Tables.{fits_table}
use Rattle.rules.specs.Table.{listing}
use Rattle.rules.proofs.Table.{states_lawful}
use Rattle.tables.proofs.Following.{added_rising, shares_fit, lost_count}
use Rattle.states.proofs.Steps.{risk_so, fuller_so, missed_so}
use Rattle.estimate.proofs.Following.{kept_count, miss_put}
use Rattle.estimate.proofs.access.miss.Goals as goal

pub overflow_mul-others : goal.overflow_mul-others
overflow_mul-others c = let p = c.split-share in
    shares_fit _ _ c.args.s.units.0 c.args.ways (omega (arith, c.requires.2)) (split_part p.result c.args.s.units c.args.ways p.ensures) c.requires.1.1

pub add-kept-requires : goal.add-kept-requires
add-kept-requires c = let a = c.args in
    let lost = c.lose_each-lost in
    let risk = risk_so a.x c.requires.0.0 c.requires.0.1 _ _ a.s c.at_risk-risk.ensures in
    let few : size c.at_risk-risk.result ≤ a.ways = rw risk c.requires.1.2 in
    let more = lost_count listing _ _ a.n _ (table_of a.words.now) _ (fits_table a.words.now a.n (omega (arith, c.requires.3))) lost.ensures in
    (omega (arith, more, few, c.requires.2, c.requires.3, lost.auto.words), added_rising listing _ _ _ _ _ lost.ensures states_lawful c.requires.4)

pub add-requires : goal.add-requires
add-requires c = let a = c.args in
    let lost = c.lose_each-lost in
    let kept = c.add-kept in
    let risk = risk_so a.x c.requires.0.0 c.requires.0.1 _ _ a.s c.at_risk-risk.ensures in
    let few : size c.at_risk-risk.result ≤ a.ways = rw risk c.requires.1.2 in
    let countable : c.fuller-t.result.misses ≤ 4095 = omega (arith, ap (λ (s : State). s.misses) c.fuller-t.ensures, c.requires.1.0) in
    let more = kept_count a.x c.fuller-t.result c.at_risk-risk.result a.ways _ a.n (table_of a.words.now) (fits_table a.words.now a.n (omega (arith, c.requires.3))) _ _ _ _ _ _ _
    few c.size_of.ensures (missed_so a.x c.requires.0.0 c.fuller-t.result _ countable _ _ c.missed.ensures) lost.ensures kept.ensures in
    (omega (arith, more, c.requires.2, c.requires.3, lost.auto.words, kept.auto.words), added_rising listing _ _ _ _ _ kept.ensures states_lawful (added_rising listing _ _ _ _ _ lost.ensures states_lawful c.requires.4))

pub returns : goal.returns
returns c = let a = c.args in
    let p = c.split-share in
    let risk = risk_so a.x c.requires.0.0 c.requires.0.1 _ _ a.s c.at_risk-risk.ensures in
    let full = fuller_so a.x c.requires.0.0 c.requires.0.1 _ c.requires.2 _ _ c.fuller-t.ensures in
    let countable : c.fuller-t.result.misses ≤ 4095 = omega (arith, ap (λ (s : State). s.misses) c.fuller-t.ensures, c.requires.1.0) in
    miss_put a.ways a.x a.s c.fuller-t.result c.at_risk-risk.result _ _ _ _ _ _ _ _ _ _ _ _ _ _ risk full
    (split_part p.result a.s.units a.ways p.ensures) (split_rest p.result a.s.units a.ways p.ensures) c.size_of.ensures c.rest_of.ensures
    (missed_so a.x c.requires.0.0 c.fuller-t.result _ countable _ _ c.missed.ensures) (missed_so a.x c.requires.0.0 c.fuller-t.result _ countable _ _ c.missed-2.ensures) c.lose_each-lost.ensures c.add-kept.ensures c.add.ensures
