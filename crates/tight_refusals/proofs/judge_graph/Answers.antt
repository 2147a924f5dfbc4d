-- `judge_graph` puts the limits into the verdict of document 01's call.
use mathlib.Core.Path.{◌∙◌}
use Rattle.tight_refusals.proofs.Judging.{judged}
use Rattle.tight_refusals.proofs.judge_graph.Goals as goal

pub returns : goal.returns
returns c =
    let a = c.args in
    c.judge.ensures
    ∙ judged a.cache a.contents a.cells a.tracked.now a.runs.now a.accesses.now a.edges.now _ c.limit_for-limit.ensures
