-- `seek` halves the stretch in which the place lies.
use native.Mathlib.Omega.{arith}
use mathlib.Core.Path.{◌≡◌}
use Rattle.words.specs.BestTables.{table_of}
use Rattle.words.proofs.BestTables.{fits_table}
use Rattle.rules.specs.Best.{listing}
use Rattle.rules.proofs.Best.{best_orders}
use Rattle.tables.proofs.Insertion.{seek_start, seek_up, seek_down, seek_end}
use borrow.Author.Rules.{rules}
use Rattle.best.proofs.placing.seek.Goals as goal

pub loop-low-init : goal.loop-low-init
loop-low-init c = let a = c.args in
    let start = seek_start listing a.s a.n (table_of a.words.now) (fits_table a.words.now a.n (omega arith)) in
    (search rules, search rules, start.0, start.1)

pub loop-low-preserved-then-is_after : goal.loop-low-preserved-then-is_after
loop-low-preserved-then-is_after c = let a = c.args in (
  omega arith,
  search rules,
  seek_up listing a.s a.n (table_of a.words.now) (fits_table a.words.now a.n (omega arith)) _ _ _ (omega arith)
      c.load.ensures c.is_after.ensures best_orders c.requires.1 c.if-is_after.true,
  c.loop-low.invariant.3,
)

pub loop-low-preserved : goal.loop-low-preserved
loop-low-preserved c = let a = c.args in (
  omega arith,
  omega arith,
  c.loop-low.invariant.2,
  seek_down listing a.s a.n (table_of a.words.now) (fits_table a.words.now a.n (omega arith)) _ _ _ (omega arith)
      c.load.ensures c.is_after.ensures c.if-is_after.false,
)

pub returns : goal.returns
returns c = let a = c.args in
    let l = c.loop-low in
    let met : l.high ≡ l.low = omega arith in
    seek_end listing a.s a.n (table_of a.words.now) (fits_table a.words.now a.n (omega arith)) _ (omega arith) l.invariant.2 (rw met at l.invariant.3)
