-- `miss` adds the states with a block lost, the one that loses nothing, and the open one of the units left over. There is room for all: where
-- every way of the set holds a block, the second has no units.
use mathlib.Core.Path.{refl, ◌∙◌}
use native.Mathlib.Omega.{arith}
use lib.Dec.{eqb}
use Rattle.rules.specs.Contents.{shared}
use Rattle.rules.proofs.Splitting.{split_part, split_rest}
use Rattle.words.specs.BestTables.{table_of}
use Rattle.words.proofs.BestTables.{fits_table}
use Rattle.rules.specs.Best.{listing}
use Rattle.rules.proofs.Best.{best_lawful}
use Rattle.tables.proofs.Following.{shares_fit, lost_count, added_rising}
use Rattle.best.proofs.Following.{shares_more_fit, kept_count, miss_put}
use Rattle.best.proofs.access.miss.Goals as goal

pub lose_each-lost-requires : goal.lose_each-lost-requires
lose_each-lost-requires c = let p = c.requires in (p.0, p.1.0, omega (arith, p.3), p.4)

pub overflow_sub-others : goal.overflow_sub-others
unfolding shared
overflow_sub-others c = omega (arith, c.size_of-size.ensures, c.requires.1.3)

pub overflow_mul-others : goal.overflow_mul-others
overflow_mul-others c =
    let p = c.split-share in
    shares_fit _ _ c.args.s.units.0 c.args.ways (omega (arith, c.requires.2)) (split_part p.result c.args.s.units c.args.ways p.ensures) c.requires.1.2

pub overflow_add-others : goal.overflow_add-others
overflow_add-others c =
    let p = c.split-share in
    shares_more_fit _ _ c.args.s.units.0 c.args.ways _ _ (eqb c.size_of-size.result 0) (omega (arith, c.requires.2)) (split_part p.result c.args.s.units c.args.ways p.ensures) c.requires.1.2
    (split_rest p.result c.args.s.units c.args.ways p.ensures) c.units_if-sent.ensures

pub missed-requires : goal.missed-requires
missed-requires c = let p = c.requires in (p.0, p.1.0)

pub add-kept-requires : goal.add-kept-requires
unfolding shared
add-kept-requires c =
    let a = c.args in
    let lost = c.lose_each-lost in
    let more = lost_count listing _ _ a.n _ (table_of a.words.now) _ (fits_table a.words.now a.n (omega (arith, c.requires.3))) lost.ensures in
    (omega (arith, more, c.requires.1.3, c.requires.2, c.requires.3, lost.auto.words), added_rising listing _ _ _ _ _ lost.ensures best_lawful c.requires.4)

pub opened-requires : goal.opened-requires
opened-requires c = c.requires.1.0

pub add-requires : goal.add-requires
unfolding shared
add-requires c =
    let a = c.args in
    let lost = c.lose_each-lost in
    let kept = c.add-kept in
    let more = kept_count a.x a.s _ a.ways _ a.n (table_of a.words.now) (fits_table a.words.now a.n (omega (arith, c.requires.3))) _ _ _ _ _ _ _ _ _
    c.requires.1.3 c.requires.2 c.size_of-size.ensures c.units_if-sent.ensures c.missed.ensures lost.ensures kept.ensures in
    (omega (arith, more, c.requires.3, lost.auto.words, kept.auto.words), added_rising listing _ _ _ _ _ kept.ensures best_lawful (added_rising listing _ _ _ _ _ lost.ensures best_lawful c.requires.4))

pub shape_of-words : goal.shape_of-words
shape_of-words c = c.add.auto.words ∙ c.add-kept.auto.words ∙ c.lose_each-lost.auto.words

pub returns : goal.returns
unfolding shared
returns c =
    let a = c.args in
    let p = c.split-share in
    miss_put a.ways a.x a.s _ _ _ _ _ _ _ _ _ _ _ _ _ _ _ _ refl
    (split_part p.result a.s.units a.ways p.ensures) (split_rest p.result a.s.units a.ways p.ensures) c.size_of-size.ensures
    c.units_if-sent.ensures c.units_if-left.ensures c.missed.ensures c.opened.ensures
    c.lose_each-lost.ensures c.add-kept.ensures c.add.ensures
