-- `comes_to` adds the block and takes what is live.
use mathlib.Core.Path.{ap}
use Prim.Native.Nat.{ℕ}
use Rattle.rules.specs.Contents.{shared}
use Rattle.tables.proofs.Masks.{with_listed}
use Rattle.tight.proofs.sums.comes_to.Goals as goal

pub returns : goal.returns
unfolding shared
returns c = let a = c.args in ap (λ (C : ℕ). shared C a.live) (with_listed a.mask a.x.place c.requires _ c.with_block.ensures)
