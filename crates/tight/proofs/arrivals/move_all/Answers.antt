-- `move_all` moves the rows, and then what is left over.
use mathlib.Core.Path.{refl}
use native.Mathlib.Nat.{le_refl}
use Rattle.tight.proofs.RowsMoved.{rest_ready, rest_came}
use Rattle.tight.proofs.arrivals.move_all.Goals as goal

pub move_rest-requires : goal.move_rest-requires
move_rest-requires c =
    let a = c.args in
    (c.requires.1.placed, rest_ready a.ways a.x a.live a.t a.s a.work.now c.requires.0 c.requires.1 a.s.count _ (le_refl a.s.count) c.move_rows.ensures refl)

pub returns : goal.returns
returns c =
    let a = c.args in
    rest_came a.ways a.x a.live a.t a.s a.work.now c.requires.0 c.requires.1 a.s.count _ (le_refl a.s.count) c.move_rows.ensures refl _ c.move_rest.ensures
