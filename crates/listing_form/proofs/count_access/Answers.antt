-- `count_access` meets its contract: a block has to follow.
use Rattle.listing_form.proofs.Counts.{access_short, access_long}
use Rattle.listing_form.proofs.count_access.Goals as goal

pub returns-then-tokens-at-lt2 : goal.returns-then-tokens-at-lt2
returns-then-tokens-at-lt2 c = access_short c.args.tokens.now c.args.at c.requires c.if-tokens-at-lt2.true

pub returns : goal.returns
returns c = access_long c.args.tokens.now c.args.at c.requires c.if-tokens-at-lt2.false
