-- `forward` meets its contract: the test of an edge is the definition's.
use Rattle.std.proofs.Common.{rules, tests, ◌∙◌, ◌&&◌, ltb}
use Rattle.std.proofs.lemmas.Iterator.Search.{all_from_yields_List}
use Rattle.rules.specs.Input.{edges_of}
use Rattle.graph_check.proofs.Checks.{edges_in_chunks, all_forward}
use Rattle.graph_check.proofs.forward.Goals as goal

pub returns : goal.returns
returns c =
    let a = c.args in
    all_from_yields_List (λ e. ltb e.from e.to && ltb e.to a.n) _ _ _ c.all.ensures.ran (edges_in_chunks _ a.edges.now (cc) (cc)) (λ x b q k. search (rules, tests))
    ∙ all_forward a.n (edges_of a.edges.now)
