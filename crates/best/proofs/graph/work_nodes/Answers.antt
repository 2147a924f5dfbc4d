-- `work_nodes` works one node after the other.
use mathlib.Core.Path.{ap}
use native.Mathlib.Numerals.{add-one}
use native.Mathlib.Omega.{arith}
use lib.ListN.{length}
use Rattle.rules.specs.Input.{input_of}
use Rattle.rules.proofs.Nodes.{offset_next, run_within, run_long}
use Rattle.words.specs.BestTables.{table_of}
use Rattle.tables.proofs.Inputs.{offset_start, run_part}
use Rattle.best.proofs.Graphs.{nodes_start, node_startable, nodes_next}
use Rattle.best.proofs.graph.work_nodes.Goals as goal

pub loop-j-init : goal.loop-j-init
loop-j-init c =
    let a = c.args in
    let i = input_of a.cache a.limit a.tracked.now a.runs.now a.accesses.now a.edges.now in
    (offset_start a.runs.now, nodes_start i (table_of a.work.now))

pub overflow_add-to : goal.overflow_add-to
overflow_add-to c =
    let a = c.args in
    let i = input_of a.cache a.limit a.tracked.now a.runs.now a.accesses.now a.edges.now in
    omega (arith, run_within i c.requires.1 c.loop-j.j c.loop-j-test.true, c.loop-j.invariant.0, c.requires.1.few_accesses)

pub offset_bounds-accesses-from : goal.offset_bounds-accesses-from
offset_bounds-accesses-from c =
    let a = c.args in
    let i = input_of a.cache a.limit a.tracked.now a.runs.now a.accesses.now a.edges.now in
    omega (arith, run_within i c.requires.1 c.loop-j.j c.loop-j-test.true, c.loop-j.invariant.0, c.requires.1.few_accesses)

pub slice_bounds-work_node-end : goal.slice_bounds-work_node-end
slice_bounds-work_node-end c =
    let a = c.args in
    let i = input_of a.cache a.limit a.tracked.now a.runs.now a.accesses.now a.edges.now in
    omega (arith, run_within i c.requires.1 c.loop-j.j c.loop-j-test.true, c.loop-j.invariant.0)

pub work_node-requires : goal.work_node-requires
work_node-requires c =
    let a = c.args in
    let l = c.loop-j in
    let ok = c.requires.1 in
    let here = c.loop-j-test.true in
    let i = input_of a.cache a.limit a.tracked.now a.runs.now a.accesses.now a.edges.now in
    let part = run_part i l.j l.from l.invariant.0 in (
      rw part (omega (arith, run_long i ok l.j here, run_within i ok l.j here, ok.few_accesses)),
      node_startable i ok l.j here _ l.work l.invariant.1 (omega (arith, l.auto.work, c.requires.0)) (ap length part),
    )

pub loop-j-preserved : goal.loop-j-preserved
loop-j-preserved c =
    let a = c.args in
    let l = c.loop-j in
    let here = c.loop-j-test.true in
    let g = c.work_node in
    let i = input_of a.cache a.limit a.tracked.now a.runs.now a.accesses.now a.edges.now in
    let part = run_part i l.j l.from l.invariant.0 in (
      rw (add-one l.j) (omega (arith, l.invariant.0, offset_next a.runs.now l.j here)),
      rw (add-one l.j) (nodes_next i c.requires.1 l.j here (table_of l.work) (table_of g.new.work) l.invariant.1 (rw (← part) g.ensures)),
    )
