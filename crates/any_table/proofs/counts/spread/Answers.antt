-- `spread` meets its contract: 7 for what is no table, then 8 for room that is too short, and otherwise the units at each count.
use mathlib.Core.Path.{sym, ◌∙◌}
use native.Mathlib.Nat.{le_of_eq}
use native.Mathlib.Omega.{arith}
use Rattle.any_table.proofs.Counting.{table_total, room_filled}
use Rattle.any_table.proofs.counts.spread.Goals as goal

pub fill-requires : goal.fill-requires
fill-requires g c =
    let k = g.K.Kind in (
      omega (arith, c.if-room-last.false, c.largest-last.ensures),
      le_of_eq (table_total k.listing k.fitting _ (sym c.is_table.ensures ∙ c.if-not-is_table.false)),
    )

pub returns-clause-left : goal.returns-clause-left
returns-clause-left g c =
    let k = g.K.Kind in
    room_filled k.listing k.fitting g.C.Count.count (k.states c.args.words.now) c.args.room.now (sym c.is_table.ensures ∙ c.if-not-is_table.false)
    (omega (arith, c.if-room-last.false, c.largest-last.ensures)) _ c.fill.ensures
