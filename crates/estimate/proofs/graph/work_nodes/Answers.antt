-- `work_nodes` works one node after the other.
use mathlib.Core.Path.{refl, ap, ◌∙◌}
use native.Mathlib.Nat.{not-suc-le-zero}
use native.Mathlib.Numerals.{add-one}
use native.Mathlib.Omega.{arith}
use lib.ListN.{length, length-set}
use Rattle.rules.specs.Input.{input_of}
use Rattle.rules.specs.Entries.{entry_of}
use Rattle.rules.proofs.Graph.{offset_next, run_within, run_long}
use Rattle.pairings.proofs.Joins.{joins_most}
use Rattle.words.specs.Tables.{table_of}
use Rattle.tables.proofs.Inputs.{offset_start, run_part}
use Rattle.estimate.proofs.Graphs.{nodes_start, node_startable, nodes_next, fits_next}
use Rattle.estimate.proofs.Lasts.{kept_before, kept_next}
use Rattle.estimate.proofs.graph.work_nodes.Goals as goal

pub loop-j-init : goal.loop-j-init
loop-j-init c = let a = c.args in
    let i = input_of a.cache a.limit a.tracked.now a.runs.now a.accesses.now a.edges.now in
    let n = nodes_start (entry_of a.counts.now a.rows.now) i (table_of a.work.now) _ c.aside_at_start-aside.ensures in
    record { start = offset_start a.runs.now; tables = n.0; places = refl; lasts = (λ p l. absurd (not-suc-le-zero l)); fits = n.1; joins = n.2 }

pub overflow_add-to : goal.overflow_add-to
overflow_add-to c = let a = c.args in let l = c.loop-j in
    omega (arith, run_within (input_of a.cache a.limit a.tracked.now a.runs.now a.accesses.now a.edges.now) c.requires.1 l.j c.loop-j-test.true, l.invariant.start, c.requires.1.few_accesses)

pub offset_bounds-accesses-from : goal.offset_bounds-accesses-from
offset_bounds-accesses-from c = let a = c.args in let l = c.loop-j in
    omega (arith, run_within (input_of a.cache a.limit a.tracked.now a.runs.now a.accesses.now a.edges.now) c.requires.1 l.j c.loop-j-test.true, l.invariant.start, c.requires.1.few_accesses)

pub slice_bounds-its_run-end : goal.slice_bounds-its_run-end
slice_bounds-its_run-end c = let a = c.args in let l = c.loop-j in
    omega (arith, run_within (input_of a.cache a.limit a.tracked.now a.runs.now a.accesses.now a.edges.now) c.requires.1 l.j c.loop-j-test.true, l.invariant.start)

pub work_node-done-requires : goal.work_node-done-requires
work_node-done-requires c = let a = c.args in let l = c.loop-j in
    let i = input_of a.cache a.limit a.tracked.now a.runs.now a.accesses.now a.edges.now in
    let ok = c.requires.1 in
    let here = c.loop-j-test.true in
    let part = run_part i l.j l.from l.invariant.start in (
      rw part (omega (arith, run_long i ok l.j here, run_within i ok l.j here, ok.few_accesses)),
      node_startable (entry_of a.counts.now a.rows.now) i ok l.j here l.done.aside.0 _ l.work l.invariant.tables (omega (arith, l.auto.work, c.requires.0)) (ap length part),
      c.requires.2,
      omega (arith, l.invariant.joins, joins_most a.edges.now l.j),
    )

pub loop-j-preserved : goal.loop-j-preserved
loop-j-preserved c = let a = c.args in let l = c.loop-j in
    let i = input_of a.cache a.limit a.tracked.now a.runs.now a.accesses.now a.edges.now in
    let Q = entry_of a.counts.now a.rows.now in
    let ok = c.requires.1 in
    let here = c.loop-j-test.true in
    let g = c.work_node-done in
    let known = c.last_before-last.ensures in
    let part = run_part i l.j l.from l.invariant.start in record {
      start = rw (add-one l.j) (omega (arith, l.invariant.start, offset_next a.runs.now l.j here));
      tables =
          rw (add-one l.j)
          (nodes_next Q i ok l.j here l.done.aside.0 g.result.aside.0 _ (table_of l.work) (table_of g.new.work) l.invariant.tables (known ∙ kept_before i ok l.j l.lasts l.invariant.lasts)
          (rw (← part, ← l.invariant.joins) g.ensures.0));
      places = length-set l.lasts l.j _ ∙ l.invariant.places;
      lasts = rw (add-one l.j) (kept_next i ok l.j l.lasts l.invariant.lasts _ (omega (arith, l.invariant.places, ok.few_nodes)) (rw (← part, ← known) c.last_after.ensures));
      fits = rw (add-one l.j) (fits_next Q i ok l.j here l.done.aside.0 (table_of l.work) l.done.fits g.result.fits l.invariant.tables l.invariant.fits (rw (← l.invariant.joins) g.ensures.1));
      joins = c.joins_to-joins.ensures;
    }
