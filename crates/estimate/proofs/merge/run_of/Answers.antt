-- `run_of` goes on as long as the states do.
use mathlib.Core.Path.{ap}
use Prim.Native.Nat.{◌+◌}
use native.Mathlib.Omega.{arith}
use Rattle.rules.specs.Table.{state_at}
use Rattle.words.specs.Tables.{table_of}
use Rattle.words.proofs.Tables.{fits_table}
use Rattle.states.proofs.Steps.{goes_so}
use Rattle.estimate.specs.Merging.{InRun}
use Rattle.estimate.proofs.Runs.{run_more}
use Rattle.estimate.proofs.merge.run_of.Goals as goal

pub loop-i-init : goal.loop-i-init
loop-i-init c = let a = c.args in
    let T = table_of a.work.now in
    run_more (InRun a.ways a.x a.mask a.filling) T a.from 0 (state_at T a.from) (omega (arith, fits_table a.work.now (a.from + a.m) (omega arith)))
    (ap (state_at T) (omega arith)) c.requires.3 tt

pub loop-i-preserved : goal.loop-i-preserved
loop-i-preserved c = let a = c.args in let l = c.loop-i in
    run_more (InRun a.ways a.x a.mask a.filling) (table_of a.work.now) a.from l.i c.load.result
    (omega (arith, fits_table a.work.now (a.from + a.m) (omega arith), c.loop-i-test.true)) c.load.ensures (goes_so a.x c.requires.0 _ c.load.result _ _ _ c.goes_on.ensures c.if-not-goes_on.false) l.invariant
