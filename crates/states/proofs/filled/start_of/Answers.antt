-- `start_of`: where every way is known to be empty none is filled, and else every way may be.
use Rattle.states.proofs.Numbers.{start_none, start_empty, start_full}
use Rattle.states.proofs.filled.start_of.Goals as goal

pub returns-then-not-has_bytes : goal.returns-then-not-has_bytes
returns-then-not-has_bytes c = start_none c.args.cache _ c.has_bytes.ensures (c.if-not-has_bytes.true)

pub returns-then-starts_empty : goal.returns-then-starts_empty
returns-then-starts_empty c =
    start_empty c.args.cache _ c.has_bytes.ensures (c.if-not-has_bytes.false) _ _ c.starts_empty.ensures c.if-starts_empty.true c.evenly.ensures

pub returns : goal.returns
returns c =
    start_full c.args.cache _ c.has_bytes.ensures (c.if-not-has_bytes.false) _ _ c.starts_empty.ensures c.if-starts_empty.false c.evenly-2.ensures
