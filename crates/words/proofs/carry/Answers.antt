-- `carry` goes word by word.
use mathlib.Core.Path.{◌≡◌, refl}
use native.Mathlib.Omega.{arith}
use lib.ListN.{drop}
use lib.Seq.{paste-zero}
use Rattle.words.proofs.Handing.{carry_turn}
use Rattle.words.proofs.carry.Goals as goal

pub loop-i-init : goal.loop-i-init
loop-i-init c = paste-zero c.args.res.now 0 (drop c.args.from c.args.work.now)

pub loop-i-preserved : goal.loop-i-preserved
loop-i-preserved c = let a = c.args in
    let l = c.loop-i in
    carry_turn a.res.now a.work.now l.res _ a.from l.i (omega arith) (omega arith) l.invariant refl

pub returns : goal.returns
returns c = let past : c.loop-i.i ≡ c.args.n = omega arith in rw past at c.loop-i.invariant
