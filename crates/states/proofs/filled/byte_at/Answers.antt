-- `byte_at` shifts the byte down.
use Rattle.states.proofs.Numbers.{byte_shift}
use Rattle.states.proofs.filled.byte_at.Goals as goal

pub returns : goal.returns
returns c = rw (byte_shift c.args.at)
