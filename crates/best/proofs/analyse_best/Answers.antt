-- `analyse_best` gives the verdict of the checks; where there is no refusal, every node is worked, and the last one's table handed over.
use mathlib.Core.Path.{sym, ◌∙◌}
use native.Mathlib.Omega.{arith}
use Rattle.std.proofs.lemmas.Result.{err_from_is_err_and}
use Rattle.tables.proofs.Inputs.{checked_without}
use Rattle.words.specs.BestTables.{table_of}
use Rattle.best.specs.Call.{handed}
use Rattle.best.proofs.Calls.{best_checked, leaves_refused, leaves_finished, last_table, finished_fits}
use Rattle.best.proofs.analyse_best.Goals as goal

pub work_nodes-requires : goal.work_nodes-requires
work_nodes-requires c =
    let a = c.args in
    let ok = best_checked _ (sym c.in_ok-judge_best.was ∙ c.judge_best.ensures) in
    (omega (arith, ok.working_room_fact), checked_without _ a.limit a.tracked.now a.runs.now a.accesses.now a.edges.now _ _ ok)

pub overflow_sub-runs : goal.overflow_sub-runs
overflow_sub-runs c = omega (arith, (best_checked _ (sym c.in_ok-judge_best.was ∙ c.judge_best.ensures)).some_nodes)

pub hand_over-states-requires : goal.hand_over-states-requires
hand_over-states-requires c =
    let a = c.args in
    let ok = best_checked _ (sym c.in_ok-judge_best.was ∙ c.judge_best.ensures) in
    let g = c.work_nodes in
    let table = last_table a.sets a.ways a.revision a.limit a.tracked.now a.runs.now a.accesses.now a.edges.now a.res.now a.work.now (table_of g.new.work) ok.some_nodes g.ensures in (
      omega (arith, ok.few_nodes),
      omega (arith, ok.working_room_fact, g.auto.work),
      rw table (omega (arith, finished_fits (handed a.sets a.ways a.revision a.limit a.tracked.now a.runs.now a.accesses.now a.edges.now a.res.now a.work.now) ok, ok.result_room_fact)),
    )

pub returns-in_err-judge_best : goal.returns-in_err-judge_best
returns-in_err-judge_best c =
    let a = c.args in
    let p = err_from_is_err_and c.from_residual.result c.from_residual.ensures.1 in
    rw (p.1, p.2) (leaves_refused a.sets a.ways a.revision a.limit a.tracked.now a.runs.now a.accesses.now a.edges.now a.res.now a.work.now _ _ c.judge_best.ensures c.in_err-judge_best.was)

pub returns : goal.returns
returns c =
    let a = c.args in
    let accepted = sym c.in_ok-judge_best.was ∙ c.judge_best.ensures in
    let ok = best_checked _ accepted in
    let g = c.work_nodes in
    let h = c.hand_over-states.ensures in
    leaves_finished a.sets a.ways a.revision a.limit a.tracked.now a.runs.now a.accesses.now a.edges.now a.res.now a.work.now _ _ _ _ accepted
    (last_table a.sets a.ways a.revision a.limit a.tracked.now a.runs.now a.accesses.now a.edges.now a.res.now a.work.now (table_of g.new.work) ok.some_nodes g.ensures)
    h.value h.res_after (rw g.auto.work at h.work_after)
