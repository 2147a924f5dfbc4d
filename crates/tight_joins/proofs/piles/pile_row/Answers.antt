-- `pile_row` writes heights, and zeros behind them.
use Rattle.tight_joins.proofs.Piled.{row_piled}
use Rattle.tight_joins.proofs.piles.pile_row.Goals as goal

pub returns : goal.returns
returns c =
    let a = c.args in
    row_piled a.at a.width a.by a.work.now _ _ c.requires.0 c.requires.1 c.pile_on.ensures c.clear_row.ensures
