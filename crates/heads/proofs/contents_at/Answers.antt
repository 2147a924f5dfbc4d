-- `contents_at` takes the lost block away, and puts the accessed one in.
use mathlib.Core.Path.{refl, ap}
use native.Mathlib.Omega.{arith}
use Prim.Native.Nat.{ℕ}
use lib.Bits.{bit_or}
use borrow.Author.Tests.{lt-ltb, le-ltb}
use Rattle.tables.proofs.Masks.{without_there}
use Rattle.heads.specs.Head.{contents_at}
use Rattle.heads.proofs.contents_at.Goals as goal

pub returns-then-k-lt16 : goal.returns-then-k-lt16
unfolding contents_at
returns-then-k-lt16 c = let a = c.args in
    rw (lt-ltb _ _ c.if-k-lt16.true) (ap (λ (C : ℕ). bit_or C a.own) (without_there _ _ c.if-k-lt16.true _ c.without_place.ensures))

pub returns : goal.returns
unfolding contents_at
returns c = rw (le-ltb c.args.k 16 (omega (arith, c.if-k-lt16.false))) refl
