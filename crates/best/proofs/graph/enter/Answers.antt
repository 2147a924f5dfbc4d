-- `enter` stores the start, or copies the first predecessor's table and has the others joined to it.
use mathlib.Core.Path.{sym, ap, ◌∙◌}
use mathlib.Core.Logic.{inr}
use mathlib.Core.List.{◌∷◌}
use Prim.Native.Nat.{ℕ}
use native.Mathlib.Nat.{min-eq_left}
use native.Mathlib.Omega.{arith}
use lib.ListN.{get_or}
use Rattle.words.specs.BestTables.{table_of}
use Rattle.tables.specs.Edges.{came_from}
use Rattle.words.proofs.BestTables.{fits_table}
use Rattle.rules.specs.Best.{listing, kind}
use Rattle.tables.proofs.Nodes.{counted_few}
use Rattle.tables.proofs.Edges.{into_here, into_none, lower_here, found}
use Rattle.rules.specs.AnyTable.{no_pairings}
use Rattle.best.specs.Tables.{begins}
use Rattle.tables.proofs.Settling.{enter_none, enter_some}
use borrow.Author.Rules.{rules}
use Rattle.best.proofs.graph.enter.Goals as goal

pub returns-then-edges-e : goal.returns-then-edges-e
returns-then-edges-e c = let a = c.args in
    let n = c.next_edge-e in
    let f = found _ _ _ _ n.ensures in
    let ns = a.edges.now in
    enter_none kind a.to 0 (table_of a.work.now) a.limit no_pairings begins (came_from ns a.to 0) _ (sym f.3 ∙ into_none ns a.to n.result (omega arith))
    (fits_table a.work.now 5184 c.requires.0) c.requires.1
    c.store.ensures

pub overflow_cast-from : goal.overflow_cast-from
overflow_cast-from c = omega (arith, c.shared_slice_known-2-1.given c.next_edge-e.result)

pub overflow_mul-from : goal.overflow_mul-from
overflow_mul-from c = omega (arith, c.shared_slice_known-2-1.given c.next_edge-e.result)

pub count-n-requires : goal.count-n-requires
count-n-requires c = let a = c.args in
    let n = c.next_edge-e in
    let f = found _ _ _ _ n.ensures in
    let p = c.requires in
    let low = lower_here a.edges.now a.to n.result f.2 (omega arith) (rw f.3 p.4) in
    omega (arith, low.0, p.0, p.1)

pub copy-requires : goal.copy-requires
copy-requires c = let a = c.args in
    let n = c.next_edge-e in
    let f = found _ _ _ _ n.ensures in
    let p = c.requires in
    let low = lower_here a.edges.now a.to n.result f.2 (omega arith) (rw f.3 p.4) in
    let few = counted_few listing (get_or a.edges.now n.result 0) c.count-n.result (table_of a.work.now) c.count-n.ensures in
    (omega (arith, few, low.0, p.0, p.1), omega (arith, few, p.0, p.1), inr (omega (arith, few, low.0)))

pub join_others-requires : goal.join_others-requires
join_others-requires c = let a = c.args in
    let p = c.requires in
    let n = c.next_edge-e in
    let f = found _ _ _ _ n.ensures in
    let here = f.2 (omega arith) in
    let behind-first = c.after_edge-others.ensures ∙ min-eq_left (omega (arith, here.0)) in
    let low = lower_here a.edges.now a.to n.result f.2 (omega arith) (rw f.3 p.4) in
    let m = c.count-n in
    (search rules, p.1, counted_few listing (get_or a.edges.now n.result 0) m.result (table_of a.work.now) m.ensures, omega (arith, here.0, behind-first), p.2, p.3, rw behind-first low.1)

pub returns : goal.returns
returns c = let a = c.args in
    let p = c.requires in
    let n = c.next_edge-e in
    let f = found _ _ _ _ n.ensures in
    let ns = a.edges.now in
    let here = f.2 (omega arith) in
    let low = lower_here ns a.to n.result f.2 (omega arith) (rw f.3 p.4) in
    let others = c.after_edge-others in
    let first = sym f.3 ∙ into_here ns a.to n.result here.0 here.1 ∙ ap (λ (e : ℕ). get_or ns n.result 0 ∷ came_from ns a.to e) (sym (others.ensures ∙ min-eq_left (omega (arith, here.0)))) in
    let m = c.count-n in
    let k = c.copy in
    enter_some kind a.to 0 (table_of a.work.now) (get_or ns n.result 0) m.result (table_of k.new.words) low.0 p.1 (fits_table a.work.now 5184 p.0)
    m.ensures k.ensures a.limit no_pairings begins (came_from ns a.to 0) (came_from ns a.to others.result) _ 0 _ first c.join_others.ensures
