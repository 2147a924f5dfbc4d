-- `split_contents` splits the row, or leaves it.
use mathlib.Core.Path.{sym, ◌∙◌}
use Rattle.tight.proofs.RowsSplit.{split_there, split_none}
use Rattle.tight.proofs.splits.split_contents.Goals as goal

pub split_row-requires : goal.split_row-requires
split_row-requires c = c.requires.2

pub returns-then-can_lose : goal.returns-then-can_lose
returns-then-can_lose c =
    let a = c.args in
    split_there a.ways a.x a.at a.row a.select a.rest a.width a.work.now _ (sym c.can_lose.ensures ∙ c.if-can_lose.true) c.split_row.ensures

pub returns : goal.returns
returns c =
    let a = c.args in
    split_none a.ways a.x a.at a.row a.select a.rest a.width a.work.now (sym c.can_lose.ensures ∙ c.if-can_lose.false)
