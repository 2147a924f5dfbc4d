-- `number_of` reads the byte of the set, in the first word or in the second.
use Rattle.std.proofs.Common.{arith}
use Rattle.states.proofs.Numbers.{at_front_lem, at_back}
use Rattle.states.proofs.filled.number_of.Goals as goal

pub returns-then-at-lt8 : goal.returns-then-at-lt8
returns-then-at-lt8 c = at_front_lem _ _ _ c.if-at-lt8.true c.byte_at.ensures

pub returns : goal.returns
returns c = at_back _ _ _ c.if-at-lt8.false (omega arith) c.byte_at-2.ensures
