-- `build` meets its contract: a list that is refused changes nothing, and otherwise the rows are built, as many as there are graphs.
use mathlib.Core.Path.{sym, ◌∙◌}
use native.Mathlib.Omega.{arith}
use lib.ListN.{length}
use Rattle.std.proofs.lemmas.Result.{err_from_is_err_and}
use Rattle.night_rows.proofs.Judged.{counted_graphs, accepted_is}
use Rattle.nightly.proofs.Calls.{build_refused, build_accepted}
use Rattle.nightly.proofs.build.Goals as goal

pub build_all-requires : goal.build_all-requires
build_all-requires c =
    let a = c.args in
    let ns = a.numbers.now in
    let accepted = accepted_is ns (length a.rows.now) (length a.work.now) (sym c.in_ok-judge_list.was ∙ c.judge_list.ensures) in
    let count = c.count_graphs-count.ensures ∙ counted_graphs ns accepted.0 in
    (accepted.0, count, omega (arith, count, accepted.1), accepted.2)

pub returns-in_err-judge_list : goal.returns-in_err-judge_list
returns-in_err-judge_list c =
    let a = c.args in
    let p = err_from_is_err_and c.from_residual.result c.from_residual.ensures.1 in
    rw (p.1, p.2) (build_refused a.numbers.now a.allowance a.rows.now a.work.now _ c.judge_list.ensures _ c.in_err-judge_list.was)

pub returns : goal.returns
returns c =
    let a = c.args in
    c.build_all.ensures
    ∙ build_accepted a.numbers.now a.allowance a.rows.now a.work.now _ c.judge_list.ensures c.in_ok-judge_list.was
