-- `sum_row` asks what a way would have only where a block can be lost; elsewhere it does not matter.
use mathlib.Core.Path.{sym, ◌∙◌}
use native.Mathlib.Omega.{arith}
use Rattle.tight.proofs.RowsSummed.{kept_added}
use Rattle.tight.proofs.totals.sum_row.Goals as goal

pub returns : goal.returns
returns c =
    let a = c.args in
    kept_added a.ways a.x a.live a.s a.plan a.k a.work.now _ (sym c.can_lose.ensures ∙ c.if-can_lose.false) (omega (arith, c.requires.1.lose, c.requires.1.lose_end))
    c.sum_contents-2.ensures
