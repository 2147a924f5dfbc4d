-- `count` goes through the slot.
use mathlib.Core.Path.{◌≡◌, sym, ap, ◌∙◌}
use Prim.Native.Nat.{◌+◌}
use native.Mathlib.Omega.{arith}
use Rattle.rules.specs.Table.{units_of, listing}
use Rattle.words.specs.Tables.{table_of}
use Rattle.words.proofs.Tables.{fits_table}
use Rattle.tables.proofs.Nodes.{filled_here, filled_next, filled_end}
use Rattle.estimate.proofs.slots.count.Goals as goal

pub returns-then-u-eq0 : goal.returns-then-u-eq0
returns-then-u-eq0 c = let a = c.args in
    filled_here listing (table_of a.work.now) a.at (fits_table a.work.now (a.at + 64) (omega arith)) c.loop-n.n (omega arith)
    (sym (ap units_of c.load.ensures) ∙ c.if-u-eq0.true) c.loop-n.invariant

pub loop-n-preserved : goal.loop-n-preserved
loop-n-preserved c = let a = c.args in
    filled_next listing (table_of a.work.now) a.at (fits_table a.work.now (a.at + 64) (omega arith)) c.loop-n.n (omega arith)
    (λ e. c.if-u-eq0.false (ap units_of c.load.ensures ∙ e)) c.loop-n.invariant

pub returns : goal.returns
returns c = let a = c.args in
    let all : c.loop-n.n ≡ 64 = omega arith in
    sym all ∙ filled_end listing (table_of a.work.now) a.at (fits_table a.work.now (a.at + 64) (omega arith)) c.loop-n.n all c.loop-n.invariant
