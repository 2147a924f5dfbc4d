-- `move_rest` moves the row of what is left over to the accessed block alone, as far as it is live.
use native.Mathlib.Nat.{le_refl}
use Rattle.rules.specs.Contents.{with}
use Rattle.tight_rows.proofs.Raising.{live_part}
use Rattle.tight.proofs.arrivals.move_rest.Goals as goal

pub move_to-requires : goal.move_to-requires
move_to-requires c =
    let a = c.args in
    (rw c.rest_route-r.ensures c.requires.1, live_part (with 0 a.x.place) a.live _ c.comes_to-end.ensures, le_refl 1)
