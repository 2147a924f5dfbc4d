-- `work_paired` looks at the form and works every node; how it ends is left to `close`.
use mathlib.Core.Path.{◌∙◌}
use native.Mathlib.Omega.{arith}
use Rattle.tables.proofs.Inputs.{checked_without}
use Rattle.rules.specs.Entries.{entry_of}
use Rattle.rules.proofs.Refusals.{checked}
use Rattle.words.specs.Tables.{table_of}
use Rattle.estimate.specs.Call.{handed}
use Rattle.calls.proofs.Leaving.{leaves_unfit}
use Rattle.estimate.proofs.Calls.{form_of, formed_so, unformed, fit_so, last_table, last_aside, finished_fits, closed_leaves}
use Rattle.estimate.proofs.work_paired.Goals as goal

pub returns-then-not-in_form : goal.returns-then-not-in_form
returns-then-not-in_form c = let a = c.args in
    leaves_unfit a.cache a.limit a.tracked.now a.runs.now a.accesses.now a.edges.now a.counts.now a.rows.now a.res.now a.work.now _ _ c.requires
    (unformed a.cache a.limit a.tracked.now a.runs.now a.accesses.now a.edges.now a.counts.now a.rows.now a.res.now a.work.now _ (form_of _ a.edges.now a.runs.now _ _ c.joins_to.ensures c.in_form.ensures) (c.if-not-in_form.true))
    c.refuse_pairing.ensures.value c.refuse_pairing.ensures.work_after

pub work_nodes-done-requires : goal.work_nodes-done-requires
work_nodes-done-requires c = let a = c.args in
    let ok = checked _ c.requires in
    (omega (arith, ok.working_room_fact), checked_without a.cache a.limit a.tracked.now a.runs.now a.accesses.now a.edges.now _ _ ok, formed_so _ _ _ _ c.in_form.ensures (c.if-not-in_form.false))

pub overflow_sub-runs : goal.overflow_sub-runs
overflow_sub-runs c = omega (arith, (checked _ c.requires).some_nodes)

pub close-requires : goal.close-requires
close-requires c = let a = c.args in
    let ok = checked _ c.requires in
    let g = c.work_nodes-done in
    let q = entry_of a.counts.now a.rows.now in
    let table = last_table a.cache a.limit a.tracked.now a.runs.now a.accesses.now a.edges.now a.res.now a.work.now g.result.aside.0 (table_of g.new.work) ok.some_nodes q g.ensures.0 in (
      omega (arith, ok.few_nodes),
      omega (arith, ok.working_room_fact, g.auto.work),
      rw table (omega (arith, finished_fits q (handed a.cache a.limit a.tracked.now a.runs.now a.accesses.now a.edges.now a.res.now a.work.now) ok, ok.result_room_fact)),
    )

pub returns : goal.returns
returns c = let a = c.args in
    let ok = checked _ c.requires in
    let g = c.work_nodes-done in
    let q = entry_of a.counts.now a.rows.now in
    c.close.ensures
    ∙ closed_leaves a.cache a.limit a.tracked.now a.runs.now a.accesses.now a.edges.now a.counts.now a.rows.now a.res.now a.work.now g.result.fits _ g.result.aside _ c.requires
    (fit_so a.cache a.limit a.tracked.now a.runs.now a.accesses.now a.edges.now a.counts.now a.rows.now a.res.now a.work.now _ _ (form_of _ a.edges.now a.runs.now _ _ c.joins_to.ensures c.in_form.ensures) (c.if-not-in_form.false) g.ensures.1)
    (last_table a.cache a.limit a.tracked.now a.runs.now a.accesses.now a.edges.now a.res.now a.work.now g.result.aside.0 (table_of g.new.work) ok.some_nodes q g.ensures.0)
    (last_aside a.cache a.limit a.tracked.now a.runs.now a.accesses.now a.edges.now a.res.now a.work.now g.result.aside.0 (table_of g.new.work) ok.some_nodes q g.ensures.0)
    g.auto.work
