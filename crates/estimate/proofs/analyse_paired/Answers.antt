-- `analyse_paired` gives the verdict of the checks; where there is no refusal, all is left to `work_paired`.
use mathlib.Core.Path.{sym, ◌∙◌}
use Rattle.std.proofs.lemmas.Result.{err_from_is_err_and}
use Rattle.calls.proofs.Leaving.{paired_refused_so}
use Rattle.estimate.proofs.analyse_paired.Goals as goal

pub work_paired-requires : goal.work_paired-requires
work_paired-requires c = sym c.in_ok-judge.was ∙ c.judge.ensures

pub returns-in_err-judge : goal.returns-in_err-judge
returns-in_err-judge c =
    let a = c.args in
    let p = err_from_is_err_and c.from_residual.result c.from_residual.ensures.1 in
    rw (p.1, p.2) (paired_refused_so a.cache a.limit a.tracked.now a.runs.now a.accesses.now a.edges.now a.counts.now a.rows.now a.res.now a.work.now _ _ c.judge.ensures c.in_err-judge.was)

pub returns : goal.returns
returns c = c.work_paired.ensures
