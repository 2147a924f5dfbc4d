-- `among` meets its contract: the definition is the library's test.
use Rattle.std.proofs.Common.{rules, tests, sym, ◌∙◌, eqb}
use Rattle.std.proofs.lemmas.Iterator.{YieldsList-from_slice}
use Rattle.std.proofs.lemmas.Iterator.Search.{any_from_yields_List}
use Rattle.graph_check.proofs.Checks.{among_any}
use Rattle.graph_check.proofs.among.Goals as goal

pub returns : goal.returns
returns c =
    let a = c.args in
    any_from_yields_List (λ n. eqb n a.b) _ _ _ c.any.ensures.ran (YieldsList-from_slice a.list.now (cc)) (λ x b q k. search (rules, tests))
    ∙ sym (among_any a.list.now a.b)
