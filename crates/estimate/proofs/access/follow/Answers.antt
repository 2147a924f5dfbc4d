-- `follow`: a held block is a hit, and any other access a miss.
use mathlib.Core.Path.{sym, ◌∙◌}
use Rattle.estimate.proofs.Following.{hit_put, miss_goes}
use Rattle.tables.proofs.Masks.{has_listed}
use Rattle.estimate.proofs.access.follow.Goals as goal

pub returns-then-has_block : goal.returns-then-has_block
returns-then-has_block c = hit_put _ _ _ _ _ _ _ (sym (has_listed _ _ c.requires.0.0 _ _ c.has_block.ensures) ∙ c.if-has_block.true) c.add.ensures

pub returns : goal.returns
returns c = miss_goes _ _ _ _ _ _ _ (sym (has_listed _ _ c.requires.0.0 _ _ c.has_block.ensures) ∙ c.if-has_block.false) c.miss.ensures
