-- `begins_item` meets its contract: 1, 2 and 5 begin an item.
use Rattle.listing_form.proofs.Counts.{begins_access, begins_branch, begins_loop}
use Rattle.listing_form.proofs.begins_item.Goals as goal

pub returns-then-first-eq1 : goal.returns-then-first-eq1
returns-then-first-eq1 c = begins_access _ _ c.token-first.ensures c.if-first-eq1.true

pub returns-then-first-eq2 : goal.returns-then-first-eq2
returns-then-first-eq2 c = begins_branch _ _ c.token-first.ensures c.if-first-eq2.true

pub returns : goal.returns
returns c = begins_loop _ _ c.token-first.ensures c.if-first-eq1.false c.if-first-eq2.false
