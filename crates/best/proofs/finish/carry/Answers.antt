-- `carry` goes state by state.
use mathlib.Core.Path.{◌≡◌, sym, ◌∙◌}
use Prim.Native.Nat.{◌+◌}
use native.Mathlib.Omega.{arith}
use lib.ListN.{drop, length-drop}
use lib.Seq.{get_or-drop}
use Rattle.words.specs.BestTables.{table_of}
use Rattle.words.proofs.BestTables.{fits_table}
use Rattle.best.specs.Tables.{no_state}
use Rattle.best.proofs.Handing.{carry_start, carry_turn}
use Rattle.best.proofs.finish.carry.Goals as goal

pub loop-i-init : goal.loop-i-init
loop-i-init c = let a = c.args in carry_start (drop a.from (table_of a.work.now)) a.res.now

pub loop-i-preserved : goal.loop-i-preserved
loop-i-preserved c = let a = c.args in
    let l = c.loop-i in
    let T = table_of a.work.now in
    carry_turn (drop a.from T) a.res.now l.res _ l.i _ (omega (arith, length-drop a.from T, fits_table a.work.now (a.from + a.n) (omega arith))) (omega arith) l.invariant
    (c.load-s.ensures ∙ sym (get_or-drop a.from T l.i no_state)) c.write.ensures

pub returns : goal.returns
returns c = let past : c.loop-i.i ≡ c.args.n = omega arith in rw past at c.loop-i.invariant
