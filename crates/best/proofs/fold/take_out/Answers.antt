-- `take_out` moves the states behind the place down by one.
use mathlib.Core.Path.{ap, ◌∙◌}
use mathlib.Core.List.{List}
use Prim.Native.Nat.{◌+◌, ◌-◌}
use native.Mathlib.Omega.{arith}
use lib.ListN.{take}
use Rattle.rules.specs.declared.BestState.{BestState}
use Rattle.words.specs.BestTables.{table_of}
use Rattle.words.proofs.BestTables.{fits_table}
use Rattle.tables.proofs.Reading.{best_read}
use Rattle.tables.proofs.Moving.{moved_table, taken_out}
use Rattle.best.proofs.fold.take_out.Goals as goal

pub returns : goal.returns
returns c =
    let a = c.args in
    let down = ap table_of c.copy_within.ensures.after ∙ moved_table best_read a.words.now (a.at + 1) a.n a.at (omega arith) (omega arith) (omega arith) in
    ap (λ (T : List BestState). take (a.n - 1) T) down ∙ taken_out (table_of a.words.now) a.at a.n (omega arith) (fits_table a.words.now a.n (omega arith))
