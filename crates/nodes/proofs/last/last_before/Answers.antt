-- `last_before` starts from the first predecessor's last block, if there is one, and asks the others.
use mathlib.Core.Path.{sym, ◌∙◌}
use Prim.Native.Nat.{◌+◌}
use native.Mathlib.Omega.{arith}
use lib.ListN.{get_or}
use Rattle.tables.specs.Edges.{came_from}
use Rattle.tables.proofs.Edges.{into_here, into_none, found}
use Rattle.nodes.proofs.Lasts.{before_none, before_some}
use Rattle.nodes.proofs.last.last_before.Goals as goal

pub returns-then-edges-e : goal.returns-then-edges-e
returns-then-edges-e c =
    let a = c.args in
    let n = c.next_edge-e in
    let f = found _ _ _ _ n.ensures in
    before_none _ _ (sym f.3 ∙ into_none a.edges.now a.to n.result (omega arith))

pub overflow_cast-edges : goal.overflow_cast-edges
overflow_cast-edges c = omega (arith, c.shared_slice_known-2-1.given c.next_edge-e.result)

pub agree_others-requires : goal.agree_others-requires
agree_others-requires c = let n = c.next_edge-e in
    let f = found _ _ _ _ n.ensures in omega (arith, (f.2 c.if-edges-e.false).0)

pub returns : goal.returns
returns c =
    let a = c.args in
    let n = c.next_edge-e in
    let f = found _ _ _ _ n.ensures in
    let ns = a.edges.now in
    let here = f.2 c.if-edges-e.false in
    before_some _ (came_from ns a.to 0) (came_from ns a.to (n.result + 2)) (get_or ns n.result 0) _ _ (sym f.3 ∙ into_here ns a.to n.result here.0 here.1) c.last_at-first.ensures c.agree_others.ensures
