-- `load` reads the five words of a state, which lie within the slice.
use mathlib.Core.Path.{sym}
use native.Mathlib.Omega.{arith}
use Rattle.words.proofs.BestTables.{row_at}
use Rattle.best.proofs.memory.load.Goals as goal

pub returns : goal.returns
returns c = sym (row_at _ _ _ (omega arith))
