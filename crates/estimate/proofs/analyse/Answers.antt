-- `analyse` gives the verdict of the checks; where there is no refusal, every node is worked, each join from the front, and the last one's table handed over.
use mathlib.Core.Path.{sym, ap, ◌∙◌}
use native.Mathlib.Omega.{arith}
use lib.ListN.{length}
use Rattle.std.proofs.lemmas.Result.{err_from_is_err_and}
use Rattle.tables.proofs.Inputs.{checked_without}
use Rattle.rules.specs.AnyTable.{Entries, no_pairings}
use Rattle.rules.specs.Input.{input_of}
use Rattle.rules.specs.Graph.{worked_by}
use Rattle.rules.proofs.Refusals.{checked}
use Rattle.rules.proofs.Entries.{no_entries}
use Rattle.words.specs.Tables.{table_of}
use Rattle.estimate.specs.Call.{handed}
use Rattle.calls.proofs.Leaving.{leaves_refused, leaves_finished}
use Rattle.estimate.proofs.Calls.{no_form, last_table, last_aside, finished_fits}
use Rattle.estimate.proofs.analyse.Goals as goal

pub work_nodes-done-requires : goal.work_nodes-done-requires
work_nodes-done-requires c = let a = c.args in
    let ok = checked _ (sym c.in_ok-judge.was ∙ c.judge.ensures) in
    (omega (arith, ok.working_room_fact), checked_without a.cache a.limit a.tracked.now a.runs.now a.accesses.now a.edges.now _ _ ok, no_form)

pub overflow_sub-runs : goal.overflow_sub-runs
overflow_sub-runs c = omega (arith, (checked _ (sym c.in_ok-judge.was ∙ c.judge.ensures)).some_nodes)

pub hand_over-states-requires : goal.hand_over-states-requires
hand_over-states-requires c = let a = c.args in
    let ok = checked _ (sym c.in_ok-judge.was ∙ c.judge.ensures) in
    let g = c.work_nodes-done in
    let done = g.ensures.0 ∙ ap (λ (q : Entries). worked_by q (input_of a.cache a.limit a.tracked.now a.runs.now a.accesses.now a.edges.now) (length a.runs.now)) no_entries in
    let table = last_table a.cache a.limit a.tracked.now a.runs.now a.accesses.now a.edges.now a.res.now a.work.now g.result.aside.0 (table_of g.new.work) ok.some_nodes no_pairings done in (
      omega (arith, ok.few_nodes),
      omega (arith, ok.working_room_fact, g.auto.work),
      rw table (omega (arith, finished_fits no_pairings (handed a.cache a.limit a.tracked.now a.runs.now a.accesses.now a.edges.now a.res.now a.work.now) ok, ok.result_room_fact)),
    )

pub returns-in_err-judge : goal.returns-in_err-judge
returns-in_err-judge c =
    let a = c.args in
    let p = err_from_is_err_and c.from_residual.result c.from_residual.ensures.1 in
    rw (p.1, p.2) (leaves_refused a.cache a.limit a.tracked.now a.runs.now a.accesses.now a.edges.now a.res.now a.work.now _ _ c.judge.ensures c.in_err-judge.was)

pub returns : goal.returns
returns c = let a = c.args in
    let accepted = sym c.in_ok-judge.was ∙ c.judge.ensures in
    let ok = checked _ accepted in
    let g = c.work_nodes-done in
    let h = c.hand_over-states.ensures in
    let done = g.ensures.0 ∙ ap (λ (q : Entries). worked_by q (input_of a.cache a.limit a.tracked.now a.runs.now a.accesses.now a.edges.now) (length a.runs.now)) no_entries in
    leaves_finished a.cache a.limit a.tracked.now a.runs.now a.accesses.now a.edges.now a.res.now a.work.now _ _ _ _ _ accepted
    (last_table a.cache a.limit a.tracked.now a.runs.now a.accesses.now a.edges.now a.res.now a.work.now g.result.aside.0 (table_of g.new.work) ok.some_nodes no_pairings done)
    (last_aside a.cache a.limit a.tracked.now a.runs.now a.accesses.now a.edges.now a.res.now a.work.now g.result.aside.0 (table_of g.new.work) ok.some_nodes no_pairings done)
    h.value h.res_after (rw g.auto.work at h.work_after)
