-- `put_on` looks for the place from the given one on, and says which comes behind it.
use Prim.Native.Nat.{◌≤◌}
use native.Mathlib.Omega.{arith}
use Rattle.words.specs.Tables.{table_of}
use Rattle.words.proofs.Tables.{fits_table}
use Rattle.rules.specs.Table.{listing}
use Rattle.tables.proofs.Insertion.{place_within}
use borrow.Author.Rules.{rules}
use Rattle.estimate.proofs.placing.put_on.Goals as goal

pub overflow_add-result : goal.overflow_add-result
overflow_add-result c = let a = c.args in
    let low : c.seek_on-at.result ≤ a.n = place_within listing a.s a.n (table_of a.words.now) (fits_table a.words.now a.n (omega arith)) _ c.seek_on-at.ensures in
    search rules
