-- `token` meets its contract: past the end there is 0.
use mathlib.Core.Path.{sym}
use lib.ListN.{get_or-eq_default}
use Rattle.listing_form.proofs.token.Goals as goal

pub returns : goal.returns
returns c = sym (get_or-eq_default c.args.tokens.now 0 c.if-at-tokens.false)
