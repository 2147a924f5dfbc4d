-- `keep_row` gathers the row, and writes its contents and units where there are any.
use Rattle.tight_rows.proofs.Totals.{plain}
use Rattle.tight_ends.proofs.RowsKept.{may_gather_at, sum_at_lem, none_at, some_at}
use Rattle.tight_ends.proofs.ends.keep_row.Goals as goal

pub gather_row-requires : goal.gather_row-requires
gather_row-requires c =
    let a = c.args in
    may_gather_at a.contents a.cells a.slot a.bottom a.width a.k a.to a.work.now c.requires _ _ c.row_place-from.ensures c.row_place-row.ensures

pub returns-then-units-eq0 : goal.returns-then-units-eq0
returns-then-units-eq0 c =
    let a = c.args in
    none_at a.contents a.cells a.slot a.bottom a.width a.k a.to a.work.now c.requires _ _ c.row_place-from.ensures c.row_place-row.ensures _
    c.gather_row.ensures _ (plain _ _ c.sum_of-units.ensures
    (sum_at_lem a.contents a.cells a.slot a.bottom a.width a.k a.to a.work.now c.requires _ _ c.row_place-from.ensures c.row_place-row.ensures _
    c.gather_row.ensures)) c.if-units-eq0.true

pub returns : goal.returns
returns c =
    let a = c.args in
    some_at a.contents a.cells a.slot a.bottom a.width a.k a.to a.work.now c.requires _ _ c.row_place-from.ensures c.row_place-row.ensures _
    c.gather_row.ensures _ (plain _ _ c.sum_of-units.ensures
    (sum_at_lem a.contents a.cells a.slot a.bottom a.width a.k a.to a.work.now c.requires _ _ c.row_place-from.ensures c.row_place-row.ensures _
    c.gather_row.ensures)) c.if-units-eq0.false
