-- `store` writes the five words of a state, and no other.
use Rattle.words.proofs.Tables.{table_stored}
use Rattle.estimate.proofs.memory.store.Goals as goal

pub returns : goal.returns
returns c = table_stored _ _ _
