-- `joins_at` counts the edges to the node.
use Rattle.std.proofs.Common.{rules, tests, arith, eqb, length, ◌≡◌}
use Rattle.std.specs.List.{filter}
use Rattle.std.proofs.lemmas.Iterator.Consumers.{YieldsList-from_filter, count_from_yields_List}
use Rattle.rules.specs.Input.{Edge, edges_of}
use Rattle.graph_check.proofs.Checks.{edges_in_chunks}
use Rattle.pairings.proofs.Joins.{edges_to}
use Rattle.pairings.proofs.joins_at.Goals as goal

pub returns : goal.returns
returns c =
    let a = c.args in
    let many : c.count-many.result ≡ length (filter (λ e. eqb e.to a.node) (edges_of a.edges.now)) =
    count_from_yields_List _ _ c.count-many.ensures.ran
    (YieldsList-from_filter _ (λ (e : Edge). eqb e.to a.node) (edges_in_chunks _ a.edges.now (cc) (cc)) c.filter.ensures.closure (λ x b q k. search (rules, tests))) in
    omega (arith, many, edges_to a.node (edges_of a.edges.now))
