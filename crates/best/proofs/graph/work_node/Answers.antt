-- `work_node` brings the node's table into its slot, runs its accesses over it, and ends it there.
use Prim.Native.Nat.{◌-◌, ◌*◌}
use native.Mathlib.Omega.{arith}
use lib.ListN.{length}
use Rattle.words.specs.BestTables.{table_of}
use Rattle.best.proofs.Graphs.{entered_ready, node_few, node_done}
use Rattle.best.proofs.graph.work_node.Goals as goal

pub enter-entered-requires : goal.enter-entered-requires
enter-entered-requires c = let s = c.requires.1 in
    (s.room, s.node, s.ranges.some_states, s.ranges.few_states, s.lower)

pub run-done-requires : goal.run-done-requires
run-done-requires c = let a = c.args in
    let s = c.requires.1 in
    let g = c.enter-entered in
    (c.requires.0, entered_ready a.sets a.ways a.tracked.now a.limit (4096 - length a.accesses.now) a.j a.edges.now a.work.now s g.result g.new.work g.auto.work g.ensures)

pub seal-requires : goal.seal-requires
seal-requires c = let a = c.args in
    let s = c.requires.1 in
    let g = c.enter-entered in
    let h = c.run-done in
    let r = entered_ready a.sets a.ways a.tracked.now a.limit (4096 - length a.accesses.now) a.j a.edges.now a.work.now s g.result g.new.work g.auto.work g.ensures in (
      node_few a.sets a.ways a.tracked.now a.limit (a.j * 64) g.result a.accesses.now g.new.work c.requires.0 r h.result (table_of h.new.work) h.ensures,
      omega (arith, s.room, s.node, g.auto.work, h.auto.work),
    )

pub returns : goal.returns
returns c = let a = c.args in
    let g = c.enter-entered in
    let h = c.run-done in
    node_done a.sets a.ways a.tracked.now a.limit a.j g.result h.result a.accesses.now a.edges.now a.work.now g.new.work h.new.work (table_of c.seal.new.work)
    c.requires.0 c.requires.1 g.auto.work g.ensures h.auto.work h.ensures c.seal.ensures
