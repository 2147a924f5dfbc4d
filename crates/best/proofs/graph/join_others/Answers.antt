-- `join_others` joins one table at a time.
use mathlib.Core.Path.{refl, ◌∙◌}
use Prim.Native.Nat.{◌+◌, ◌≤◌}
use native.Mathlib.Omega.{arith}
use lib.ListN.{get_or}
use Rattle.best.proofs.Laws.{length_folded}
use Rattle.words.specs.BestTables.{table_of}
use Rattle.tables.specs.Edges.{came_from}
use Rattle.rules.specs.Best.{listing, kind}
use Rattle.tables.proofs.Nodes.{counted_few}
use Rattle.tables.proofs.Edges.{into_here, into_none, lower_here, found}
use Rattle.rules.specs.AnyTable.{no_pairings}
use Rattle.tables.proofs.Settling.{join_turn, joined}
use Rattle.words.proofs.BestTables.{fits_table}
use borrow.Author.Rules.{rules}
use Rattle.best.proofs.graph.join_others.Goals as goal

pub loop-e-init : goal.loop-e-init
loop-e-init c = let n = found _ _ _ _ c.next_edge-e.ensures in
    (n.1, n.2, refl, c.requires.2, refl, rw n.3 c.requires.6, rw n.3 refl)

pub overflow_cast-from : goal.overflow_cast-from
overflow_cast-from c = omega (arith, c.shared_slice_known-in-loop-e-1.given c.loop-e.e)

pub overflow_mul-from : goal.overflow_mul-from
overflow_mul-from c = omega (arith, c.shared_slice_known-in-loop-e-1.given c.loop-e.e)

pub count-m-requires : goal.count-m-requires
count-m-requires c = let a = c.args in
    let l = c.loop-e in
    let low = lower_here a.edges.now a.to l.e l.invariant.1 c.loop-e-test.true l.invariant.5 in
    omega (arith, low.0, l.invariant.2, c.requires.0, c.requires.1)

pub join_to-so_far-requires : goal.join_to-so_far-requires
join_to-so_far-requires c = let a = c.args in
    let l = c.loop-e in
    let p = c.requires in
    let low = lower_here a.edges.now a.to l.e l.invariant.1 c.loop-e-test.true l.invariant.5 in
    (omega (arith, l.invariant.2, p.0), omega (arith, p.1), l.invariant.3, omega (arith, low.0, p.1), counted_few listing (get_or a.edges.now l.e 0) _ (table_of l.work) c.count-m.ensures, p.4, p.5)

pub loop-e-smaller : goal.loop-e-smaller
loop-e-smaller c =
    let n = found _ _ _ _ c.next_edge-e-in-loop-e.ensures in
    let here = c.loop-e.invariant.1 c.loop-e-test.true in
    omega (arith, n.0 (omega (arith, here.0)), n.1)

pub loop-e-preserved : goal.loop-e-preserved
loop-e-preserved c = let a = c.args in
    let l = c.loop-e in
    let p = c.requires in
    let ns = a.edges.now in
    let g = c.join_to-so_far in
    let n = found _ _ _ _ c.next_edge-e-in-loop-e.ensures in
    let here = l.invariant.1 c.loop-e-test.true in
    let low = lower_here ns a.to l.e l.invariant.1 c.loop-e-test.true l.invariant.5 in
    let few : g.result ≤ a.limit = rw g.ensures.stands.count (length_folded a.limit _ p.4) in (
      n.1,
      n.2,
      search rules,
      omega (arith, few, p.5),
      g.ensures.before ∙ l.invariant.4,
      rw n.3 low.1,
      rw n.3
          (join_turn kind a.to 0 (table_of a.work.now) a.limit no_pairings 0 (came_from ns a.to l.e) (came_from ns a.to (l.e + 2)) (get_or ns l.e 0) l.so_far 0 g.result 0 c.count-m.result (table_of l.work) (table_of g.new.work)
          (into_here ns a.to l.e here.0 here.1) low.0 c.count-m.ensures l.invariant.4 g.ensures _ l.invariant.6),
    )

pub returns : goal.returns
returns c = let a = c.args in
    let p = c.requires in
    let l = c.loop-e in
    joined kind a.to 0 (table_of a.work.now) a.limit no_pairings (came_from a.edges.now a.to l.e) _ 0 (table_of l.work) _
    (into_none a.edges.now a.to l.e (omega arith)) l.invariant.3 p.1 (fits_table l.work 5184 (omega (arith, l.invariant.2, p.0))) l.invariant.4 l.invariant.6
