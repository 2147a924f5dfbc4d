-- The graph that a listing expands into. The open node is always the one that was opened last.
use mathlib.Core.List.{List, [], ◌∷◌, ◌++◌, map, flat_map}
use Rattle.std.specs.Prelude.{ℕ, zero, suc, length}
use Rattle.rules.specs.Input.{Edge}
use Rattle.listing_form.specs.Listing.{Listing, end, access, branch, loop}

-- a graph under way: the runs of the nodes opened earlier, in their order, the open node's run, and the edges
pub record Graph : Type 0 where
  pub earlier : List (List ℕ)
  pub current : List ℕ
  pub edges : List Edge

-- node 0 is open first
abbrev pub node_zero : Graph
node_zero = record { earlier = []; current = []; edges = [] }

-- the open node's number: nodes are numbered as opened
abbrev pub open_node : Graph → ℕ
open_node g = length g.earlier

-- an access goes to the end of the open node's run
unfoldable pub accessed : ℕ → Graph → Graph
accessed b g = record { earlier = g.earlier; current = g.current ++ b ∷ []; edges = g.edges }

-- edges from each of some nodes to one
abbrev pub edges_to : ℕ → List ℕ → List Edge
edges_to j froms = map (λ a. record { from = a; to = j }) froms

-- a new node is opened, with an edge from each of some nodes
unfoldable pub opened : List ℕ → Graph → Graph
opened froms g = record { earlier = g.earlier ++ g.current ∷ []; current = []; edges = g.edges ++ edges_to (suc (open_node g)) froms }

-- f, n times
unfoldable pub times : {A : Type 0} → ℕ → (A → A) → A → A
times zero f x = x
times (suc n) f x = times n f (f x)

-- what a sequence makes of a graph under way
unfoldable pub expanded : Listing → Graph → Graph
expanded end g = g
expanded (access b s) g = expanded s (accessed b g)
expanded (branch l r s) g =
    let a = open_node g in
    let left = expanded l (opened (a ∷ []) g) in
    let right = expanded r (opened (a ∷ []) left) in
    expanded s (opened (open_node left ∷ open_node right ∷ []) right)
expanded (loop n l s) g = expanded s (times n (expanded l) g)

-- the graph of a listing
unfoldable pub graph_of : Listing → Graph
graph_of s = expanded s node_zero

-- ---- a graph as document 01 takes it

-- each node's run, in order
abbrev pub runs : Graph → List (List ℕ)
runs g = g.earlier ++ g.current ∷ []

-- how long each is
unfoldable pub lengths : Graph → List ℕ
lengths g = map length (runs g)

-- the one access list: the runs one behind the other
unfoldable pub accesses : Graph → List ℕ
accesses g = flat_map (λ r. r) (runs g)

-- edges listed flat: from, to, from, to ..
abbrev pub flat : List Edge → List ℕ
flat [] = []
flat (e ∷ es) = e.from ∷ e.to ∷ flat es
