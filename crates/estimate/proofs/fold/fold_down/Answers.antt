-- `fold_down` folds while there are too many states.
use mathlib.Core.Path.{sym, ◌∙◌}
use native.Mathlib.Omega.{arith}
use borrow.Author.Rules.{rules}
use borrow.Author.Tests.{ltb-true, ltb-false}
use Rattle.rules.specs.Fold.{states}
use Rattle.words.proofs.Tables.{fits_table}
use Rattle.rules.proofs.Table.{states_lawful}
use Rattle.tables.proofs.Folding.{folding_less, folding_rises, folding_turn, folding_end}
use Rattle.estimate.proofs.fold.fold_down.Goals as goal

pub loop-words-smaller : goal.loop-words-smaller
loop-words-smaller c =
    let many = ltb-true c.args.limit c.loop-words.tally.states (sym c.is_above_limit.ensures ∙ c.loop-words-test.true) in
    folding_less states _ _ _ _ _ _ _ (fits_table _ _ (omega arith)) (omega arith) many c.fold_once-tally.ensures

pub loop-words-preserved : goal.loop-words-preserved
loop-words-preserved c =
    let l = c.loop-words in
    let h = c.fold_once-tally.ensures in
    let many = ltb-true c.args.limit l.tally.states (sym c.is_above_limit.ensures ∙ c.loop-words-test.true) in
    let less = loop-words-smaller c in (
      omega (arith, less),
      search rules,
      folding_rises states _ _ _ _ _ _ _ (fits_table _ _ (omega arith)) (omega arith) many h states_lawful l.invariant.2,
      folding_turn states _ _ _ _ _ _ _ (fits_table _ _ (omega arith)) (omega arith) many h _ l.invariant.3,
    )

pub returns : goal.returns
returns c = let l = c.loop-words in
    folding_end states _ _ _ _ (fits_table _ _ (omega arith)) (ltb-false _ _ (sym c.is_above_limit.ensures ∙ c.loop-words-test.false)) _ l.invariant.3
