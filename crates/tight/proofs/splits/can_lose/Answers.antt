-- `can_lose` asks for a hit first, and then for the blocks of the accessed set.
use mathlib.Core.Path.{sym, ◌∙◌}
use Rattle.rules.specs.Contents.{shared}
use Rattle.tables.proofs.Masks.{has_listed}
use Rattle.tight.proofs.RowsSplit.{safe_keeps, loses}
use Rattle.tight.proofs.splits.can_lose.Goals as goal

pub returns-then-mask-x-eq0 : goal.returns-then-mask-x-eq0
unfolding shared
returns-then-mask-x-eq0 c =
    let a = c.args in
    safe_keeps a.x a.mask (sym (has_listed a.mask a.x.place c.requires _ _ c.has_block.ensures) ∙ c.if-has_block.false) c.if-mask-x-eq0.true

pub returns : goal.returns
unfolding shared
returns c =
    let a = c.args in
    loses a.x a.mask (sym (has_listed a.mask a.x.place c.requires _ _ c.has_block.ensures) ∙ c.if-has_block.false) c.if-mask-x-eq0.false
