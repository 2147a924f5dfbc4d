-- `Units::split` is division with rest; by no way it gives no part and all as rest, as the logic's division by 0 does.
use Rattle.rules.proofs.Splitting.{split_none, split_some}
use Rattle.rules.proofs.Units.split.Goals as goal

pub returns-then-ways-eq0 : goal.returns-then-ways-eq0
returns-then-ways-eq0 c = split_none _ _ c.if-ways-eq0.true

pub returns-else-ways-eq0 : goal.returns-else-ways-eq0
returns-else-ways-eq0 c = split_some _ _
