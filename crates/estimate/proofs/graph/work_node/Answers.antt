-- `work_node` brings the node's table into its slot, runs its accesses over it, and ends it there.
use mathlib.Core.Path.{ap, ◌∙◌}
use mathlib.Core.Bool.{◌&&◌}
use Prim.Native.Nat.{◌-◌, ◌*◌}
use native.Mathlib.Omega.{arith}
use lib.ListN.{length}
use Rattle.rules.specs.AnyTable.{behind}
use Rattle.rules.specs.Entries.{entry_of}
use Rattle.rules.proofs.Refusals.{counts_few}
use Rattle.words.specs.Tables.{table_of}
use Rattle.estimate.proofs.Graphs.{entered_ready, node_few, node_done}
use Rattle.estimate.proofs.graph.work_node.Goals as goal

pub enter-entered-requires : goal.enter-entered-requires
enter-entered-requires c = let p = c.requires in
    let s = p.1 in
    (s.room, s.node, s.ranges.some_states, s.ranges.few_states, s.lower, s.ranges.few_ways, counts_few _ s.ranges.known_sets, p.2, p.3)

pub run-done-requires : goal.run-done-requires
run-done-requires c = let a = c.args in
    let p = c.requires in
    let g = c.enter-entered in
    (p.0, entered_ready (behind a.joins (entry_of a.counts.now a.rows.now)) a.cache a.tracked.now a.limit (4096 - length a.accesses.now) a.j a.past.aside.0 a.edges.now a.work.now p.1 g.result.states g.result.aside.0 g.new.work g.auto.work g.ensures.0)

pub seal-requires : goal.seal-requires
seal-requires c = let a = c.args in
    let p = c.requires in
    let g = c.enter-entered in
    let h = c.run-done in
    let r = entered_ready (behind a.joins (entry_of a.counts.now a.rows.now)) a.cache a.tracked.now a.limit (4096 - length a.accesses.now) a.j a.past.aside.0 a.edges.now a.work.now p.1 g.result.states g.result.aside.0 g.new.work g.auto.work g.ensures.0 in (
      node_few a.cache a.tracked.now a.limit (a.j * 64) g.result.states g.result.aside.0 a.last a.accesses.now g.new.work p.0 r h.result.states h.result.aside.0 (table_of h.new.work) h.ensures,
      omega (arith, p.1.room, p.1.node, g.auto.work, h.auto.work),
    )

pub returns : goal.returns
returns c = let a = c.args in
    let p = c.requires in
    let g = c.enter-entered in
    let h = c.run-done in (
      node_done (behind a.joins (entry_of a.counts.now a.rows.now)) a.cache a.tracked.now a.limit a.j a.past.aside.0 g.result.states g.result.aside.0 h.result.states h.result.aside.0 a.last a.accesses.now a.edges.now a.work.now g.new.work h.new.work (table_of c.seal.new.work)
          p.0 p.1 g.auto.work g.ensures.0 h.auto.work h.ensures c.seal.ensures,
      c.both-fits.ensures ∙ ap (a.past.fits &&◌) g.ensures.1,
    )
