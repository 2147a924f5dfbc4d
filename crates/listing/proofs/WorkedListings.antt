-- Listings worked by hand: what is read from some tokens, and the graph that it expands into.
use mathlib.Core.Path.{◌≡◌, refl}
use mathlib.Core.List.{List, [], ◌∷◌, map, flat_map}
use Prim.Native.Nat.{ℕ}
use lib.ListN.{replicate}
use Rattle.listing_form.specs.Listing.{followed_by}
use Rattle.listing_form.specs.Reading.{Reading, found, broken, listing_of, sequence_in, sequence_of, item, kind_of}
use Rattle.listing.specs.Expansion.{graph_of, expanded, opened, accessed, times, lengths, accesses, flat}

-- tokens, and the graph that they say
record Worked : Type 0 where
  listed : List ℕ
  runs : List ℕ
  accesses : List ℕ
  edges : List ℕ

abbrev worked : List ℕ → List ℕ → List ℕ → List ℕ → Worked
worked ts ns bs es = record { listed = ts; runs = ns; accesses = bs; edges = es }

abbrev cases : List Worked
cases =
    -- nothing: node 0 with an empty run
    worked [] (0 ∷ []) [] []
    -- a b; either c or nothing; d: document 01's graph of case 9, with other runs
    ∷ worked (1 ∷ 10 ∷ 1 ∷ 11 ∷ 2 ∷ 1 ∷ 12 ∷ 3 ∷ 4 ∷ 1 ∷ 13 ∷ []) (2 ∷ 1 ∷ 0 ∷ 1 ∷ []) (10 ∷ 11 ∷ 12 ∷ 13 ∷ []) (0 ∷ 1 ∷ 0 ∷ 2 ∷ 1 ∷ 3 ∷ 2 ∷ 3 ∷ [])
    -- three times a: one node
    ∷ worked (5 ∷ 3 ∷ 1 ∷ 10 ∷ 6 ∷ []) (3 ∷ []) (10 ∷ 10 ∷ 10 ∷ []) []
    -- twice either a or b: each round chooses anew
    ∷ worked
    (5 ∷ 2 ∷ 2 ∷ 1 ∷ 10 ∷ 3 ∷ 1 ∷ 11 ∷ 4 ∷ 6 ∷ [])
    (0 ∷ 1 ∷ 1 ∷ 0 ∷ 1 ∷ 1 ∷ 0 ∷ [])
    (10 ∷ 11 ∷ 10 ∷ 11 ∷ [])
    (0 ∷ 1 ∷ 0 ∷ 2 ∷ 1 ∷ 3 ∷ 2 ∷ 3 ∷ 3 ∷ 4 ∷ 3 ∷ 5 ∷ 4 ∷ 6 ∷ 5 ∷ 6 ∷ [])
    -- a branch in an arm: the node last open in that arm is the inner join
    ∷ worked (2 ∷ 2 ∷ 3 ∷ 4 ∷ 3 ∷ 1 ∷ 7 ∷ 4 ∷ []) (0 ∷ 0 ∷ 0 ∷ 0 ∷ 0 ∷ 1 ∷ 0 ∷ []) (7 ∷ []) (0 ∷ 1 ∷ 1 ∷ 2 ∷ 1 ∷ 3 ∷ 2 ∷ 4 ∷ 3 ∷ 4 ∷ 0 ∷ 5 ∷ 4 ∷ 6 ∷ 5 ∷ 6 ∷ [])
    ∷ []

-- what is read, expanded
abbrev expanded_from : List ℕ → Reading → Worked
expanded_from ts broken = worked ts [] [] []
expanded_from ts (found s us) = let g = graph_of s in worked ts (lengths g) (accesses g) (flat g.edges)

pub worked_listings : map (λ w. expanded_from w.listed (listing_of w.listed)) cases ≡ cases
unfolding listing_of sequence_in sequence_of item kind_of followed_by graph_of expanded opened accessed times lengths accesses flat_map
worked_listings = refl

-- tokens that are not of this form: a token that begins nothing; an access without a block; a branch that is not closed, or has one arm; a loop of
-- 0 or 65 rounds; nine loops in each other
abbrev refused : List (List ℕ)
refused =
    (7 ∷ [])
    ∷ (1 ∷ [])
    ∷ (2 ∷ 3 ∷ [])
    ∷ (2 ∷ 4 ∷ [])
    ∷ (5 ∷ 0 ∷ 6 ∷ [])
    ∷ (5 ∷ 65 ∷ 6 ∷ [])
    ∷ (5 ∷ 1 ∷ 5 ∷ 1 ∷ 5 ∷ 1 ∷ 5 ∷ 1 ∷ 5 ∷ 1 ∷ 5 ∷ 1 ∷ 5 ∷ 1 ∷ 5 ∷ 1 ∷ 5 ∷ 1 ∷ 6 ∷ 6 ∷ 6 ∷ 6 ∷ 6 ∷ 6 ∷ 6 ∷ 6 ∷ 6 ∷ [])
    ∷ []

pub refused_listings : map listing_of refused ≡ replicate 7 broken
unfolding listing_of sequence_in sequence_of item kind_of followed_by
refused_listings = refl
