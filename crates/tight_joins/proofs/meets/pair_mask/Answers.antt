-- `pair_mask` reads the masks of two rows.
use mathlib.Core.Path.{refl}
use Rattle.rules.specs.Contents.{shared}
use Rattle.tight_joins.proofs.meets.pair_mask.Goals as goal

pub returns : goal.returns
unfolding shared
returns c = refl
