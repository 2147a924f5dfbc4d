-- `join_others` joins one table at a time.
use mathlib.Core.Path.{refl, ◌∙◌}
use Prim.Native.Nat.{◌+◌, ◌≤◌}
use native.Mathlib.Omega.{arith}
use lib.ListN.{get_or}
use borrow.Author.Rules.{rules}
use Rattle.words.specs.Tables.{table_of}
use Rattle.words.proofs.Tables.{fits_table}
use Rattle.rules.specs.AnyTable.{behind}
use Rattle.rules.specs.Entries.{entry_of}
use Rattle.rules.proofs.Fold.{length_folded}
use Rattle.rules.specs.Table.{listing}
use Rattle.rules.specs.Fold.{states}
use Rattle.tables.specs.Edges.{came_from}
use Rattle.tables.proofs.Nodes.{counted_few}
use Rattle.tables.proofs.Edges.{into_here, into_none, lower_here, found}
use Rattle.tables.proofs.Settling.{join_turn, joined}
use Rattle.estimate.proofs.Graphs.{fit_turn, all_fit_lem}
use Rattle.estimate.proofs.graph.join_others.Goals as goal

pub loop-e-init : goal.loop-e-init
loop-e-init c = let n = found _ _ _ _ c.next_edge-e.ensures in
    let p = c.requires in
    (n.1, n.2, refl, p.2, refl, rw n.3 p.6, rw n.3 refl, rw n.3 refl, omega arith)

pub count-m-requires : goal.count-m-requires
count-m-requires c = let a = c.args in
    let l = c.loop-e in
    let low = lower_here a.edges.now a.to l.e l.invariant.1 c.loop-e-test.true l.invariant.5 in
    omega (arith, low.0, l.invariant.2, c.requires.0, c.requires.1)

pub join_to-so_far-requires : goal.join_to-so_far-requires
join_to-so_far-requires c = let a = c.args in
    let l = c.loop-e in
    let p = c.requires in
    let low = lower_here a.edges.now a.to l.e l.invariant.1 c.loop-e-test.true l.invariant.5 in
    (omega (arith, l.invariant.2, p.0), omega (arith, p.1), l.invariant.3, omega (arith, low.0, p.1), counted_few listing (get_or a.edges.now l.e 0) _ (table_of l.work) c.count-m.ensures, p.4, p.5, p.7)

pub loop-e-smaller : goal.loop-e-smaller
loop-e-smaller c =
    let n = found _ _ _ _ c.next_edge-e-in-loop-e.ensures in
    let here = c.loop-e.invariant.1 c.loop-e-test.true in
    omega (arith, n.0 (omega (arith, here.0)), n.1)

pub loop-e-preserved : goal.loop-e-preserved
loop-e-preserved c = let a = c.args in
    let l = c.loop-e in
    let p = c.requires in
    let ns = a.edges.now in
    let g = c.join_to-so_far in
    let n = found _ _ _ _ c.next_edge-e-in-loop-e.ensures in
    let here = l.invariant.1 c.loop-e-test.true in
    let low = lower_here ns a.to l.e l.invariant.1 c.loop-e-test.true l.invariant.5 in
    let few : g.result.states ≤ a.limit = rw g.ensures.0.stands.count (length_folded a.limit _ p.4) in (
      n.1,
      n.2,
      search rules,
      omega (arith, few, p.5),
      g.ensures.0.before ∙ l.invariant.4,
      rw n.3 low.1,
      rw n.3
          (join_turn states a.to a.first.aside.0 (table_of a.work.now) a.limit (entry_of a.counts.now a.rows.now) l.number (came_from ns a.to l.e) (came_from ns a.to (l.e + 2)) (get_or ns l.e 0) l.so_far.states l.so_far.aside.0 g.result.states g.result.aside.0 c.count-m.result (table_of l.work) (table_of g.new.work)
          (into_here ns a.to l.e here.0 here.1) low.0 c.count-m.ensures l.invariant.4 g.ensures.0 _ l.invariant.6),
      rw n.3
          (fit_turn a.limit a.to a.first.aside.0 (table_of a.work.now) (entry_of a.counts.now a.rows.now) l.number (came_from ns a.to l.e) (came_from ns a.to (l.e + 2)) (get_or ns l.e 0) l.so_far.states l.so_far.aside.0 g.result.states g.result.aside.0 c.count-m.result l.work g.new.work
          (into_here ns a.to l.e here.0 here.1) low.0 c.count-m.ensures l.invariant.4 g.ensures.0 l.so_far.fits g.result.fits _ l.invariant.7 g.ensures.1),
      omega (arith, l.invariant.8, n.0 (omega (arith, here.0))),
    )

pub returns : goal.returns
returns c = let a = c.args in
    let l = c.loop-e in
    let p = c.requires in
    let none = into_none a.edges.now a.to l.e (omega arith) in (
      joined states a.to a.first.aside.0 (table_of a.work.now) a.limit (behind l.number (entry_of a.counts.now a.rows.now)) (came_from a.edges.now a.to l.e) _ _ (table_of l.work) _
          none l.invariant.3 p.1 (fits_table l.work 5184 (omega (arith, l.invariant.2, p.0))) l.invariant.4 l.invariant.6,
      all_fit_lem a.limit a.to a.first.aside.0 (table_of a.work.now) (behind l.number (entry_of a.counts.now a.rows.now)) (came_from a.edges.now a.to l.e) _ _ _ none l.invariant.7,
    )
