-- `expand` meets its contract: a reason to refuse, or the graph.
use Rattle.std.proofs.Common.{sym, ◌∙◌}
use Rattle.std.proofs.lemmas.Result.{err_from_is_err_and}
use Rattle.listing.proofs.Calls.{refused_leaves}
use Rattle.listing.proofs.expand.Goals as goal

pub write_graph-requires : goal.write_graph-requires
write_graph-requires c = sym c.in_ok-judge.was ∙ c.judge.ensures

pub returns-in_err-judge : goal.returns-in_err-judge
returns-in_err-judge c =
    let a = c.args in
    let p = err_from_is_err_and c.from_residual.result c.from_residual.ensures.1 in
    rw (p.1, p.2) (refused_leaves a.tokens.now a.runs.now a.accesses.now a.edges.now _ _ c.judge.ensures c.in_err-judge.was)
