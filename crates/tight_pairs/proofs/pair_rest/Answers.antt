-- `pair_rest` pairs a row, or passes over it.
use mathlib.Core.Path.{◌∙◌}
use Rattle.tight_pairs.proofs.Matched.{left_at, row_none}
use Rattle.tight_pairs.proofs.pair_rest.Goals as goal

pub returns-then-work-p-eq0 : goal.returns-then-work-p-eq0
returns-then-work-p-eq0 c =
    let a = c.args in
    row_none a.p a.n a.work.now c.requires.0 a.blocks a.i a.p.right.rows (left_at a.p a.work.now a.i c.requires.1 ∙ c.if-work-p-eq0.true)
