-- `put` looks for the place from the front, and puts the state there.
use native.Mathlib.Omega.{arith}
use lib.ListN.{take}
use lib.Seq.{length-take-le}
use Rattle.rules.specs.Table.{listing, order, plus}
use Rattle.rules.proofs.Ordered.{length_insert}
use Rattle.words.specs.Tables.{table_of}
use Rattle.words.proofs.Tables.{fits_table}
use Rattle.tables.proofs.Insertion.{seek_start}
use Rattle.estimate.proofs.placing.put.Goals as goal

pub seek-at-requires : goal.seek-at-requires
seek-at-requires c = let a = c.args in
    (omega arith, omega arith, c.requires.1, (seek_start listing a.s a.n (table_of a.words.now) (fits_table a.words.now a.n (omega arith))).0)

pub put_at-requires : goal.put_at-requires
put_at-requires c = let a = c.args in let T = table_of a.words.now in (
  omega arith,
  omega (arith, length_insert order plus a.s (take a.n T), length-take-le a.n T (fits_table a.words.now a.n (omega arith))),
  c.seek-at.ensures,
)
