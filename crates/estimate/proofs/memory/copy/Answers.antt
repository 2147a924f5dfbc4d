-- `copy` copies the words of the states, and so the states.
use mathlib.Core.Path.{ap, ◌∙◌}
use native.Mathlib.Omega.{arith}
use Rattle.words.specs.Tables.{table_of}
use Rattle.tables.proofs.Reading.{states_read}
use Rattle.tables.proofs.Moving.{copied_table}
use Rattle.estimate.proofs.memory.copy.Goals as goal

pub returns : goal.returns
returns c =
    let a = c.args in
    ap table_of c.copy_within.ensures.after ∙ copied_table states_read a.words.now a.from a.to a.n (omega arith) (omega arith)
