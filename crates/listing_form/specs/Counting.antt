-- How many nodes, accesses and edges a sequence adds to a graph, without expanding it.
use Rattle.std.specs.Prelude.{Bool, true, false, ℕ, ◌+◌, ◌-◌, ◌*◌, min, length, Option, Some, None}
use Rattle.listing_form.specs.declared.Size.{Size}
use Rattle.listing_form.specs.Listing.{Listing, end, access, branch, loop}
use Rattle.listing_form.specs.Reading.{Reading, found, broken, Kind, an_access, a_branch, a_loop, nothing}

-- the nodes that it opens: a branch opens one for each arm and one behind them
unfoldable pub nodes_in : Listing → ℕ
nodes_in end = 0
nodes_in (access b s) = nodes_in s
nodes_in (branch l r s) = nodes_in l + nodes_in r + 3 + nodes_in s
nodes_in (loop n l s) = n * nodes_in l + nodes_in s

-- the accesses that it adds to runs
unfoldable pub accesses_in : Listing → ℕ
accesses_in end = 0
accesses_in (access b s) = 1 + accesses_in s
accesses_in (branch l r s) = accesses_in l + accesses_in r + accesses_in s
accesses_in (loop n l s) = n * accesses_in l + accesses_in s

-- the edges that it adds: a branch adds two before its arms and two behind them
unfoldable pub edges_in : Listing → ℕ
edges_in end = 0
edges_in (access b s) = edges_in s
edges_in (branch l r s) = edges_in l + edges_in r + 4 + edges_in s
edges_in (loop n l s) = n * edges_in l + edges_in s

-- ---- what the first pass finds

-- counts stop at 4,097: neither more nodes nor more accesses are accepted than 4,096
abbrev pub capped : ℕ → ℕ
capped n = min 4097 n

-- a token of this kind begins an item
abbrev pub begins_item : Kind → Bool
begins_item an_access = true
begins_item a_branch = true
begins_item a_loop = true
begins_item nothing = false

-- one thing read, and another behind it
abbrev pub behind : Size → Size → Size
behind a b = record { at = b.at; nodes = capped (a.nodes + b.nodes); accesses = capped (a.accesses + b.accesses) }

-- the size of a sequence, with the place behind it
abbrev pub size_of : Listing → ℕ → Size
size_of s p = record { at = p; nodes = capped (nodes_in s); accesses = capped (accesses_in s) }

-- what is read of n tokens
abbrev pub count_of : ℕ → Reading → Option Size
count_of n broken = None
count_of n (found s us) = Some (size_of s (n - length us))
