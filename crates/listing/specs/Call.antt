-- What a call leaves: its answer, and the three rooms that were lent for the graph.
use Rattle.std.specs.Prelude.{◌||◌, List, [], ◌∷◌, ◌++◌, ℕ, ◌-◌, ltb, length, replicate, Result, Ok, Err}
use Rattle.rules.specs.declared.Refusal.{Refusal}
use Rattle.rules.specs.declared.Refusal.TheVariants.{ListingRoom, Listing as NoListing, Expansion as TooLarge}
use Rattle.rules.specs.Answers.{number_of, Reason, when, first, Verdict}
use Rattle.listing.specs.declared.GraphSize.{GraphSize}
use Rattle.listing_form.specs.Reading.{Reading, listing_of, is_broken, listing_in}
use Rattle.listing.specs.Expansion.{Graph, graph_of, runs, lengths, accesses, flat}

-- what an answer says: 0, and how many nodes, accesses and edges there are; or the refusal's number and nothing else
pub record ExpansionSays : Type 0 where
  pub number : ℕ
  pub nodes : ℕ
  pub accesses : ℕ
  pub edges : ℕ

-- of an answer
abbrev pub expansion_says : Result GraphSize Refusal → ExpansionSays
expansion_says (Ok g) = record { number = 0; nodes = g.nodes; accesses = g.accesses; edges = g.edges }
expansion_says (Err r) = record { number = number_of r; nodes = 0; accesses = 0; edges = 0 }

-- the answer, and the three rooms
pub record ExpandingLeft : Type 0 where
  pub answer : Result GraphSize Refusal
  pub runs : List ℕ
  pub accesses : List ℕ
  pub edges : List ℕ

-- 22, 14 and 15, in order, with room for n run lengths, b accesses and e numbers of edges: room for fewer than 64 run lengths, 4,096 accesses or 2,016
-- edges (two numbers each); tokens that are not of this form; a graph of more than 64 nodes or 4,096 accesses
unfoldable pub listing_reasons : Reading → ℕ → ℕ → ℕ → List Reason
listing_reasons read n b e =
    let g = graph_of (listing_in read) in
    when (ltb n 64 || ltb b 4096 || ltb e 4032) ListingRoom
    ∷ when (is_broken read) NoListing
    ∷ when (ltb 64 (length (runs g)) || ltb 4096 (length (accesses g))) TooLarge
    ∷ []

-- the numbers xs at the front of a room for n, and zeros behind them
abbrev pub at_front : ℕ → List ℕ → List ℕ
at_front n xs = xs ++ replicate (n - length xs) 0

-- the graph in the rooms, and the answer its nodes, accesses and edges; or a refusal, and the rooms as they were
abbrev pub expanding_leaves : Verdict → Graph → List ℕ → List ℕ → List ℕ → ExpandingLeft
expanding_leaves (Ok tt) g ns bs es =
    record {
      answer = Ok (record { nodes = length (runs g); accesses = length (accesses g); edges = length g.edges });
      runs = at_front (length ns) (lengths g);
      accesses = at_front (length bs) (accesses g);
      edges = at_front (length es) (flat g.edges);
    }
expanding_leaves (Err r) g ns bs es = record { answer = Err r; runs = ns; accesses = bs; edges = es }

-- the tokens ts, and rooms for run lengths, accesses and edges
unfoldable pub after_expanding : List ℕ → List ℕ → List ℕ → List ℕ → ExpandingLeft
after_expanding ts ns bs es =
    let read = listing_of ts in
    expanding_leaves (first (listing_reasons read (length ns) (length bs) (length es))) (graph_of (listing_in read)) ns bs es
