-- `store` writes the words of a state: the table has it at that place.
use mathlib.Core.Path.{ap, ◌∙◌}
use Rattle.words.specs.BestTables.{table_of}
use Rattle.words.proofs.BestTables.{table_stored}
use Rattle.best.proofs.memory.store.Goals as goal

pub returns : goal.returns
returns c = ap table_of c.write.ensures ∙ table_stored _ _ _
