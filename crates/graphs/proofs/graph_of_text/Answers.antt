-- `graph_of_text` meets its contract: where a room is too short nothing is written; otherwise what `put_listed_text` writes, and the room for numbers is cleared.
use mathlib.Core.Path.{sym, ◌∙◌}
use Rattle.writing.proofs.Told.{cleared}
use Rattle.graphs.specs.Listings.{listing_of_text, text_expanded}
use Rattle.graphs.specs.GraphRooms.{after_listing}
use Rattle.graphs.proofs.Inputs.{listing_long, graph_none, graph_all}
use Rattle.graphs.proofs.graph_of_text.Goals as goal

pub returns-then-not-room_for_graph : goal.returns-then-not-room_for_graph
unfolding after_listing
returns-then-not-room_for_graph c = graph_none _ _ (listing_long _) _ _ (sym c.room_for_graph.ensures ∙ c.if-not-room_for_graph.true)

pub returns : goal.returns
unfolding after_listing
returns c =
    let a = c.args in
    let p = c.put_listed_text-end in
    graph_all (text_expanded a.text.now) (listing_of_text a.text.now) (listing_long a.text.now) a.numbers.now
    (record { runs = a.runs.now; accesses = a.accesses.now; edges = a.edges.now; output = a.output.now })
    (sym c.room_for_graph.ensures ∙ c.if-not-room_for_graph.false) _ _ _ _ _ _ (cleared _ p.new.numbers _ (c.fill.ensures.after (λ y p. p)) p.auto.numbers) p.ensures
