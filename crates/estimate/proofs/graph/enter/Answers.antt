-- `enter` stores the start, or copies the first predecessor's table and has the others joined to it.
use mathlib.Core.Path.{sym, ap, ◌∙◌}
use mathlib.Core.Logic.{inr}
use mathlib.Core.List.{◌∷◌}
use Prim.Native.Nat.{ℕ, ◌*◌}
use native.Mathlib.Nat.{min-eq_left}
use native.Mathlib.Omega.{arith}
use lib.ListN.{get_or, set}
use Rattle.rules.specs.declared.Filled.{Filled}
use Rattle.rules.specs.Units.{whole}
use Rattle.rules.specs.AnyTable.{behind}
use Rattle.rules.specs.Table.{state, listing, initial}
use Rattle.rules.specs.Entries.{entry_of}
use Rattle.words.specs.Tables.{table_of}
use Rattle.tables.specs.Edges.{came_from}
use Rattle.estimate.specs.Working.{start_of}
use Rattle.words.proofs.Tables.{fits_table}
use Rattle.tables.proofs.Nodes.{counted_few}
use Rattle.tables.proofs.Edges.{into_here, into_none, lower_here, found}
use Rattle.rules.specs.Fold.{states}
use Rattle.tables.proofs.Settling.{enter_none, enter_some}
use Rattle.states.proofs.Numbers.{start_so}
use Rattle.estimate.proofs.Graphs.{none_fit, some_fit}
use Rattle.estimate.proofs.graph.enter.Goals as goal

pub returns-then-edges-e : goal.returns-then-edges-e
returns-then-edges-e c = let a = c.args in
    let n = c.next_edge-e in
    let f = found _ _ _ _ n.ensures in
    let ns = a.edges.now in
    let none = sym f.3 ∙ into_none ns a.to n.result (omega arith) in
    let p = c.requires in
    let entries = behind a.joins (entry_of a.counts.now a.rows.now) in (
      enter_none states a.to a.aside.0 (table_of a.work.now) a.limit entries (initial (start_of a.cache)) (came_from ns a.to 0) _
          none (fits_table a.work.now 5184 p.0) p.1
          (c.store.ensures ∙ ap (λ (F : Filled). set (table_of a.work.now) (a.to * 64) (state 0 0 F whole)) (start_so a.cache _ p.6 p.5 c.start_of-filled.ensures)),
      none_fit a.limit a.to a.aside.0 (table_of a.work.now) entries (came_from ns a.to 0) none,
    )

pub count-states-requires : goal.count-states-requires
count-states-requires c = let a = c.args in
    let n = c.next_edge-e in
    let f = found _ _ _ _ n.ensures in
    let p = c.requires in
    let low = lower_here a.edges.now a.to n.result f.2 (omega arith) (rw f.3 p.4) in
    omega (arith, low.0, p.0, p.1)

pub copy-requires : goal.copy-requires
copy-requires c = let a = c.args in
    let n = c.next_edge-e in
    let f = found _ _ _ _ n.ensures in
    let p = c.requires in
    let low = lower_here a.edges.now a.to n.result f.2 (omega arith) (rw f.3 p.4) in
    let few = counted_few listing (get_or a.edges.now n.result 0) c.count-states.result (table_of a.work.now) c.count-states.ensures in
    (omega (arith, few, low.0, p.0, p.1), omega (arith, few, p.0, p.1), inr (omega (arith, few, low.0)))

pub join_others-requires : goal.join_others-requires
join_others-requires c = let a = c.args in
    let p = c.requires in
    let n = c.next_edge-e in
    let f = found _ _ _ _ n.ensures in
    let here = f.2 (omega arith) in
    let behind-first = c.after_edge-others.ensures ∙ min-eq_left (omega (arith, here.0)) in
    let low = lower_here a.edges.now a.to n.result f.2 (omega arith) (rw f.3 p.4) in
    let m = c.count-states in
    (omega (arith, p.0, c.copy.auto.words), p.1, counted_few listing (get_or a.edges.now n.result 0) m.result (table_of a.work.now) m.ensures, omega (arith, here.0, behind-first), p.2, p.3, rw behind-first low.1, p.7, p.8)

pub returns : goal.returns
returns c = let a = c.args in
    let p = c.requires in
    let n = c.next_edge-e in
    let f = found _ _ _ _ n.ensures in
    let ns = a.edges.now in
    let here = f.2 (omega (arith, c.if-edges-e.false)) in
    let low = lower_here ns a.to n.result f.2 (omega (arith, here.0)) (rw f.3 p.4) in
    let others = c.after_edge-others in
    let first = sym f.3 ∙ into_here ns a.to n.result here.0 here.1 ∙ ap (λ (e : ℕ). get_or ns n.result 0 ∷ came_from ns a.to e) (sym (others.ensures ∙ min-eq_left (omega (arith, here.0)))) in
    let m = c.count-states in
    let k = c.copy in
    let long = fits_table a.work.now 5184 p.0 in
    let entries = behind a.joins (entry_of a.counts.now a.rows.now) in (
      enter_some states a.to a.aside.0 (table_of a.work.now) (get_or ns n.result 0) m.result (table_of k.new.words) low.0 p.1 long m.ensures k.ensures
          a.limit entries (initial (start_of a.cache)) (came_from ns a.to 0) (came_from ns a.to others.result) _ _ _ first c.join_others.ensures.0,
      some_fit a.limit a.to a.aside.0 (table_of a.work.now) entries _ (came_from ns a.to 0) (came_from ns a.to others.result) (get_or ns n.result 0) m.result k.new.words
          low.0 p.1 long m.ensures k.ensures first c.join_others.ensures.1,
    )
