-- `one_at` shifts 1 up.
use Rattle.std.proofs.Common.{◌*◌, ◌∙◌, arith}
use Rattle.tables.proofs.Masks.{one_shifted}
use Rattle.states.proofs.Numbers.{byte_shift}
use Rattle.states.proofs.filled.one_at.Goals as goal

pub returns : goal.returns
returns c = one_shifted (8 * c.args.at) (omega arith) ∙ byte_shift c.args.at
