-- `passing` meets its contract: in each turn by the first edge that is left, or by those after it.
use Rattle.std.proofs.Common.{◌≡◌, ◌+◌, ◌*◌, refl, sym, ◌∙◌, arith}
use Rattle.graph_check.proofs.Checks.{edges_next, edges_end}
use Rattle.tight_rules.specs.Rooms.{passes}
use Rattle.tight_slots.proofs.passing.Goals as goal

pub loop-e-preserved : goal.loop-e-preserved
unfolding passes
loop-e-preserved c =
    let l = c.loop-e in
    let a = c.args in
    let up : 2 * (l.e + 1) ≡ 2 * l.e + 2 = omega arith in
    rw up (rw (sym c.is_passing.ensures ∙ c.if-is_passing.false) at (edges_next (λ es. passes es a.u a.v) a.edges.now (2 * l.e) _ l.invariant (omega arith)))

pub returns : goal.returns
unfolding passes
returns c =
    let l = c.loop-e in
    let a = c.args in
    rw (← edges_end (λ es. passes es a.u a.v) a.edges.now (2 * l.e) _ l.invariant (omega arith)) refl
