-- `mask_at` reads the first word of the state.
use mathlib.Core.Path.{sym, ap}
use Rattle.rules.specs.declared.State.{State}
use Rattle.rules.specs.Table.{no_state}
use Rattle.words.proofs.Tables.{row_at}
use Rattle.estimate.proofs.coming.mask_at.Goals as goal

pub returns : goal.returns
returns c = let a = c.args in ap (λ (t : State). t.mask) (sym (row_at a.work.now a.at no_state c.requires))
