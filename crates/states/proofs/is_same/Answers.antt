-- `is_same` is what the order says: equal masks, equal misses and equal filled numbers.
use Rattle.states.proofs.Same.{mask_apart, misses_apart, filled_same}
use Rattle.states.proofs.is_same.Goals as goal

pub returns-then-s-t : goal.returns-then-s-t
returns-then-s-t c = mask_apart _ _ c.if-s-t.true

pub returns-then-s-t-2 : goal.returns-then-s-t-2
returns-then-s-t-2 c = misses_apart _ _ c.if-s-t.false c.if-s-t-2.true

pub returns : goal.returns
returns c =
    let a = c.args in
    filled_same a.s a.t c.if-s-t.false c.if-s-t-2.false _ c.same_filled.ensures
