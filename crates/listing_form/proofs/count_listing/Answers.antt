-- `count_listing` meets its contract: nothing may be left over.
use Rattle.listing_form.proofs.Counts.{listing_broken, listing_whole, listing_more}
use Rattle.listing_form.proofs.count_listing.Goals as goal

pub returns-in_err-size : goal.returns-in_err-size
returns-in_err-size c =
    rw c.from_residual.ensures (listing_broken c.args.tokens.now c.count_sequence.result c.count_sequence.ensures c.in_err-size.was)

pub returns-then-size-tokens : goal.returns-then-size-tokens
returns-then-size-tokens c = listing_more c.args.tokens.now c.count_sequence.result c.count_sequence.ensures c.in_ok-size.size c.in_ok-size.was c.if-size-tokens.true

pub returns : goal.returns
returns c = listing_whole c.args.tokens.now c.count_sequence.result c.count_sequence.ensures c.in_ok-size.size c.in_ok-size.was c.if-size-tokens.false
