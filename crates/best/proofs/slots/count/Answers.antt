-- `count` goes through the slot.
use mathlib.Core.Path.{◌≡◌, sym, ap, ◌∙◌}
use Prim.Native.Nat.{◌+◌}
use native.Mathlib.Omega.{arith}
use Rattle.best.specs.Tables.{units_of}
use Rattle.words.specs.BestTables.{table_of}
use Rattle.words.proofs.BestTables.{fits_table}
use Rattle.rules.specs.Best.{listing}
use Rattle.tables.proofs.Nodes.{filled_here, filled_next, filled_end}
use Rattle.best.proofs.slots.count.Goals as goal

pub loop-n-init : goal.loop-n-init
loop-n-init c = omega arith

pub returns-then-u-eq0 : goal.returns-then-u-eq0
returns-then-u-eq0 c = let a = c.args in
    filled_here listing (table_of a.work.now) a.at (fits_table a.work.now (a.at + 64) (omega arith)) c.loop-n.n (omega arith)
    (sym (ap units_of c.load.ensures) ∙ c.if-u-eq0.true) c.loop-n.invariant

pub loop-n-preserved : goal.loop-n-preserved
loop-n-preserved c =
    let a = c.args in
    filled_next listing (table_of a.work.now) a.at (fits_table a.work.now (a.at + 64) (omega arith)) c.loop-n.n (omega arith)
    (λ e. c.if-u-eq0.false (ap units_of c.load.ensures ∙ e)) c.loop-n.invariant

pub returns : goal.returns
returns c =
    let a = c.args in
    let past : 64 ≡ c.loop-n.n = omega arith in
    past ∙ filled_end listing (table_of a.work.now) a.at (fits_table a.work.now (a.at + 64) (omega arith)) c.loop-n.n (omega arith) c.loop-n.invariant
