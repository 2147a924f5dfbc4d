-- `seek` halves the stretch in which the place lies.
use native.Mathlib.Omega.{arith}
use mathlib.Core.Path.{◌≡◌, refl}
use Rattle.words.specs.Tables.{table_of}
use Rattle.words.proofs.Tables.{fits_table}
use Rattle.rules.specs.Table.{listing}
use Rattle.rules.proofs.Ordered.{state_orders}
use Rattle.tables.proofs.Insertion.{seek_start, seek_up, seek_down, seek_end}
use borrow.Author.Rules.{rules}
use Rattle.estimate.proofs.placing.seek.Goals as goal

pub loop-low-init : goal.loop-low-init
loop-low-init c = let a = c.args in
    let start = seek_start listing a.s a.n (table_of a.words.now) (fits_table a.words.now a.n (omega arith)) in
    (search rules, search rules, c.requires.3, start.1)

pub loop-low-preserved-then-is_behind : goal.loop-low-preserved-then-is_behind
loop-low-preserved-then-is_behind c = let a = c.args in (
  omega arith,
  search rules,
  seek_up listing a.s a.n (table_of a.words.now) (fits_table a.words.now a.n (omega arith)) _ _ _ (omega arith)
      refl c.is_behind.ensures state_orders c.requires.2 c.if-is_behind.true,
  c.loop-low.invariant.3,
)

pub loop-low-preserved : goal.loop-low-preserved
loop-low-preserved c = let a = c.args in (
  omega arith,
  omega arith,
  c.loop-low.invariant.2,
  seek_down listing a.s a.n (table_of a.words.now) (fits_table a.words.now a.n (omega arith)) _ _ _ (omega arith)
      refl c.is_behind.ensures c.if-is_behind.false,
)

pub returns : goal.returns
returns c = let a = c.args in
    let l = c.loop-low in
    let met : l.high ≡ l.low = omega arith in
    seek_end listing a.s a.n (table_of a.words.now) (fits_table a.words.now a.n (omega arith)) _ (omega arith) l.invariant.2 (rw met at l.invariant.3)
