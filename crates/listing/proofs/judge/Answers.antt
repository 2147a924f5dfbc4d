-- `judge` meets its contract: a reason after the other.
use lib.ListN.{length}
use Rattle.listing_form.specs.Reading.{listing_of}
use Rattle.listing.proofs.Calls.{few_runs, few_accesses, few_edges, no_listing, many_nodes, many_accesses, accepted}
use Rattle.listing.proofs.judge.Goals as goal

pub returns-then-runs-lt64 : goal.returns-then-runs-lt64
returns-then-runs-lt64 c = few_runs (listing_of c.args.tokens.now) c.args.runs c.args.accesses c.args.edges c.if-runs-lt64.true

pub returns-then-accesses-lt4096 : goal.returns-then-accesses-lt4096
returns-then-accesses-lt4096 c = few_accesses (listing_of c.args.tokens.now) c.args.runs c.args.accesses c.args.edges c.if-accesses-lt4096.true

pub returns-then-edges-lt4032 : goal.returns-then-edges-lt4032
returns-then-edges-lt4032 c = few_edges (listing_of c.args.tokens.now) c.args.runs c.args.accesses c.args.edges c.if-edges-lt4032.true

pub returns-in_default : goal.returns-in_default
returns-in_default c = no_listing (listing_of c.args.tokens.now) c.args.runs c.args.accesses c.args.edges c.if-runs-lt64.false c.if-accesses-lt4096.false c.if-edges-lt4032.false (length c.args.tokens.now) c.count_listing.result c.count_listing.ensures c.in_default.is

pub returns-then-size-gt63 : goal.returns-then-size-gt63
returns-then-size-gt63 c = many_nodes (listing_of c.args.tokens.now) c.args.runs c.args.accesses c.args.edges c.if-runs-lt64.false c.if-accesses-lt4096.false c.if-edges-lt4032.false (length c.args.tokens.now) c.count_listing.result c.count_listing.ensures c.in-Some.size c.in-Some.is c.if-size-gt63.true

pub returns-then-size-gt4096 : goal.returns-then-size-gt4096
returns-then-size-gt4096 c = many_accesses (listing_of c.args.tokens.now) c.args.runs c.args.accesses c.args.edges c.if-runs-lt64.false c.if-accesses-lt4096.false c.if-edges-lt4032.false (length c.args.tokens.now) c.count_listing.result c.count_listing.ensures c.in-Some.size c.in-Some.is c.if-size-gt4096.true

pub returns : goal.returns
returns c = accepted (listing_of c.args.tokens.now) c.args.runs c.args.accesses c.args.edges c.if-runs-lt64.false c.if-accesses-lt4096.false c.if-edges-lt4032.false (length c.args.tokens.now) c.count_listing.result c.count_listing.ensures c.in-Some.size c.in-Some.is c.if-size-gt63.false c.if-size-gt4096.false
