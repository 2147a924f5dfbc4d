-- `meet_at` adds to one row, and to what is used of two.
use mathlib.Core.Path.{refl}
use Rattle.tight_joins.proofs.PairsMet.{may_meet, rows_met}
use Rattle.tight_joins.proofs.meets.meet_at.Goals as goal

pub meet_rows-requires : goal.meet_rows-requires
meet_rows-requires c =
    let a = c.args in
    may_meet a.m a.i a.j a.row a.units a.work.now c.requires

pub returns : goal.returns
returns c =
    let a = c.args in
    rows_met a.m a.i a.j a.row a.units a.work.now c.requires _ _ c.meet_rows.ensures refl
