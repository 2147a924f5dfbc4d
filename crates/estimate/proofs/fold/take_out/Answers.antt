-- `take_out` moves the states behind the place down by one.
use native.Mathlib.Omega.{arith}
use Rattle.words.proofs.Tables.{below_table}
use Rattle.rules.specs.Table.{listing}
use Rattle.tables.proofs.Folding.{closing_none, closing_turn, closing_end}
use Rattle.estimate.proofs.fold.take_out.Goals as goal

pub loop-j-init : goal.loop-j-init
loop-j-init c = closing_none listing _ _

pub loop-j-preserved : goal.loop-j-preserved
loop-j-preserved c = let h = c.loop-j in
    closing_turn listing _ _ _ _ _ _ (omega arith) (below_table _ _ (omega arith)) (below_table _ _ (omega arith)) h.invariant c.load-t.ensures c.store.ensures

pub returns : goal.returns
returns c = let a = c.args in closing_end listing a.at _ c.loop-j.j a.n _ (omega arith) (omega arith) c.loop-j.invariant
