-- `all_tracked` meets its contract: the definition is the library's test.
use Rattle.std.proofs.Common.{rules, tests, ◌∙◌}
use Rattle.std.proofs.lemmas.Iterator.{YieldsList-from_slice}
use Rattle.std.proofs.lemmas.Iterator.Search.{all_from_yields_List}
use Rattle.rules.specs.Contents.{among}
use Rattle.graph_check.proofs.Checks.{all_among}
use Rattle.graph_check.proofs.all_tracked.Goals as goal

pub returns : goal.returns
returns c =
    let a = c.args in
    all_from_yields_List (among a.tracked.now) _ _ _ c.all.ensures.ran (YieldsList-from_slice a.accesses.now (cc)) (λ x b q k. search (rules, tests))
    ∙ all_among a.tracked.now a.accesses.now
