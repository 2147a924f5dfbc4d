-- `times_of` tells the streams apart; what is kept where something can be lost is the part of the ways that hold nothing to lose.
use mathlib.Core.Path.{refl}
use native.Mathlib.Omega.{arith}
use borrow.Author.Tests.{lt-ltb, le-ltb, eq-eqb, ne_eqb}
use Rattle.estimate.specs.Going.{times_of}
use Rattle.estimate.proofs.merge.times_of.Goals as goal

pub returns-then-k-lt16 : goal.returns-then-k-lt16
unfolding times_of
returns-then-k-lt16 c = rw (lt-ltb _ 16 c.if-k-lt16.true) refl

pub returns-then-k-gt16 : goal.returns-then-k-gt16
unfolding times_of
returns-then-k-gt16 c = rw (le-ltb c.args.k 16 (omega (arith, c.if-k-lt16.false)), lt-ltb 16 _ c.if-k-gt16.true) refl

pub returns-then-held-eq0 : goal.returns-then-held-eq0
unfolding times_of
returns-then-held-eq0 c = rw (le-ltb c.args.k 16 (omega (arith, c.if-k-lt16.false)), le-ltb 16 c.args.k (omega (arith, c.if-k-gt16.false)), eq-eqb _ _ c.if-held-eq0.true) refl

pub returns : goal.returns
unfolding times_of
returns c = let k = c.args.k in
    rw (le-ltb k 16 (omega (arith, c.if-k-lt16.false)), le-ltb 16 k (omega (arith, c.if-k-gt16.false)), ne_eqb _ _ c.if-held-eq0.false, c.size_of.ensures) refl
