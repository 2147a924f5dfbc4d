-- `fold_down` folds while there are too many states.
use mathlib.Core.Path.{refl, sym, ◌∙◌}
use native.Mathlib.Omega.{arith}
use borrow.Author.Rules.{rules}
use borrow.Author.Tests.{ltb-true, ltb-false}
use Rattle.words.proofs.BestTables.{fits_table}
use Rattle.rules.specs.Best.{kind}
use Rattle.rules.proofs.Best.{best_lawful}
use Rattle.tables.proofs.Folding.{folding_less, folding_rises, folding_turn, folding_end}
use Rattle.best.proofs.fold.fold_down.Goals as goal

pub loop-words-init : goal.loop-words-init
loop-words-init c = (search rules, refl, c.requires.2, refl)

pub fold_once-left-requires : goal.fold_once-left-requires
fold_once-left-requires c = (
  omega (arith, ltb-true c.args.limit c.loop-words.left (sym c.is_above_limit.ensures ∙ c.loop-words-test.true)),
  search rules,
  c.loop-words.invariant.2,
)

pub loop-words-smaller : goal.loop-words-smaller
loop-words-smaller c =
    let many = ltb-true c.args.limit c.loop-words.left (sym c.is_above_limit.ensures ∙ c.loop-words-test.true) in
    folding_less kind _ _ _ _ _ _ _ (fits_table _ _ (omega arith)) (omega arith) many c.fold_once-left.ensures

pub loop-words-preserved : goal.loop-words-preserved
loop-words-preserved c =
    let l = c.loop-words in
    let many = ltb-true c.args.limit l.left (sym c.is_above_limit.ensures ∙ c.loop-words-test.true) in
    let h = c.fold_once-left.ensures in
    let less = loop-words-smaller c in (
      omega (arith, less),
      search rules,
      folding_rises kind _ _ _ _ _ _ _ (fits_table _ _ (omega arith)) (omega arith) many h best_lawful l.invariant.2,
      folding_turn kind _ _ _ _ _ _ _ (fits_table _ _ (omega arith)) (omega arith) many h _ l.invariant.3,
    )

pub returns : goal.returns
returns c = let l = c.loop-words in
    folding_end kind _ _ _ _ (fits_table _ _ (omega arith)) (ltb-false _ _ (sym c.is_above_limit.ensures ∙ c.loop-words-test.false)) _ l.invariant.3
