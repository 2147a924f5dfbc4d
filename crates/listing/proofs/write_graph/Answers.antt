-- `write_graph` meets its contract: the rooms are zeros first, and then what the whole listing writes.
use Rattle.listing.proofs.Calls.{start_ready, accepted_leaves}
use Rattle.listing.proofs.write_graph.Goals as goal

pub write_sequence-end-requires : goal.write_sequence-end-requires
write_sequence-end-requires c =
    let a = c.args in
    start_ready a.tokens.now a.runs.now a.accesses.now a.edges.now c.requires _ _ _ (c.fill.ensures.after (λ y p. p)) (c.fill-2.ensures.after (λ y p. p)) (c.fill-3.ensures.after (λ y p. p))

pub returns : goal.returns
returns c =
    let a = c.args in
    accepted_leaves a.tokens.now a.runs.now a.accesses.now a.edges.now c.requires _ _ _ (c.fill.ensures.after (λ y p. p)) (c.fill-2.ensures.after (λ y p. p)) (c.fill-3.ensures.after (λ y p. p)) _ _ c.write_sequence-end.ensures
