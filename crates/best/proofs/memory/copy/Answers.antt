-- `copy` copies the words of the stretch.
use mathlib.Core.Path.{ap, ◌∙◌}
use native.Mathlib.Omega.{arith}
use Rattle.words.specs.BestTables.{table_of}
use Rattle.tables.proofs.Reading.{best_read}
use Rattle.tables.proofs.Moving.{copied_table}
use Rattle.best.proofs.memory.copy.Goals as goal

pub returns : goal.returns
returns c =
    let a = c.args in
    ap table_of c.copy_within.ensures.after ∙ copied_table best_read a.words.now a.from a.to a.n (omega arith) (omega arith)
