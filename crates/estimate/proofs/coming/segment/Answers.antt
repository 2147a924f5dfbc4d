-- `segment` looks at the last state before each of two places: where its contents are below, so are those of all before it.
use mathlib.Core.Path.{subst}
use Prim.Native.Nat.{ℕ, ◌<◌}
use native.Mathlib.Omega.{arith}
use Rattle.words.specs.Tables.{table_of}
use Rattle.words.proofs.Tables.{fits_table}
use Rattle.estimate.proofs.HeadByHead.{below_there}
use Rattle.estimate.proofs.coming.segment.Goals as goal

pub returns-then-mask_at-to : goal.returns-then-mask_at-to
returns-then-mask_at-to c = let a = c.args in let w = a.work.now in (
  omega arith,
  below_there a.to (table_of w) a.n a.n (fits_table w _ (omega (arith, c.requires.1))) c.requires.2 c.if-n-eq0.false (omega arith)
      (subst (λ (k : ℕ). k < a.to) c.mask_at.ensures c.if-mask_at-to.true),
)

pub returns-then-mask_at-to-2 : goal.returns-then-mask_at-to-2
returns-then-mask_at-to-2 c = let a = c.args in let w = a.work.now in (
  c.requires.0,
  below_there a.to (table_of w) a.n a.near (fits_table w _ (omega (arith, c.requires.1))) c.requires.2 c.if-near-eq0.false c.requires.0
      (subst (λ (k : ℕ). k < a.to) c.mask_at-2.ensures c.if-mask_at-to-2.true),
)
