-- `sum_all` clears the sums, adds the rows, and then what is left over.
use Rattle.rules.specs.Contents.{with}
use Rattle.tight_rows.proofs.Raising.{live_part}
use Rattle.tight_rows.proofs.Totals.{more_plain}
use Rattle.tight.proofs.RowsSummed.{ready_there, ready, rest_fits, totalled}
use Rattle.tight.proofs.totals.sum_all.Goals as goal

pub sum_rows-requires : goal.sum_rows-requires
sum_rows-requires c =
    let a = c.args in (
      ready_there a.ways a.x a.live a.s a.plan a.masks a.work.now c.requires _ c.clear_row.ensures,
      ready a.ways a.x a.live a.s a.plan a.masks a.work.now c.requires _ c.clear_row.ensures,
    )

pub returns : goal.returns
returns c =
    let a = c.args in
    let low = live_part (with 0 a.x.place) a.live _ c.comes_to-end.ensures in
    let put =
    more_plain _ _ _ _ c.add_units.ensures
    (rest_fits a.ways a.x a.live a.s a.plan a.masks a.work.now c.requires _ c.clear_row.ensures _ c.sum_rows.ensures _ _ low c.row_sum-left.ensures) in
    rw put
    (totalled a.ways a.x a.live a.s a.plan a.masks a.work.now c.requires _ c.clear_row.ensures _ c.sum_rows.ensures _ _ c.comes_to-end.ensures c.row_sum-left.ensures)
