-- `select_rows` writes the three rows, one after the other.
use Rattle.tight.proofs.CellsChosen.{selected}
use Rattle.tight.proofs.selects.select_rows.Goals as goal

pub returns : goal.returns
returns c =
    let a = c.args in
    selected a.ways a.x a.fronts a.backs a.lose a.keep a.all a.width a.work.now c.requires _ _ _ c.select_losing.ensures c.select_others.ensures
    c.fill_row.ensures
