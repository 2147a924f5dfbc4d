-- The last block of each node, which the tables do not tell: document 02, request 3/13.
use Rattle.std.specs.Prelude.{List, [], ◌∷◌, ◌++◌, ℕ, zero, suc, get_or, None}
use Rattle.rules.specs.Contents.{Last, agreed, last_after}
use Rattle.rules.specs.Input.{Input, run_of, edges_of, predecessors}

-- that of node j, if it is known
abbrev pub last_at : List Last → ℕ → Last
last_at ls j = get_or ls j None

-- l, if the nodes ps all agree with it
unfoldable pub agree_all : List Last → List ℕ → Last → Last
agree_all ls [] l = l
agree_all ls (p ∷ ps) l = agree_all ls ps (agreed l (last_at ls p))

-- the block accessed directly before a node whose predecessors are ps: known only where they all agree, and not before the first access
unfoldable pub last_before : List Last → List ℕ → Last
last_before ls [] = None
last_before ls (p ∷ ps) = agree_all ls ps (last_at ls p)

-- the last block at the end of node j, after the nodes before it
unfoldable pub node_last : Input → ℕ → List Last → Last
node_last i j ls = last_after (last_before ls (predecessors (edges_of i.edges) j)) (run_of i j)

-- those of so many nodes from the first on
unfoldable pub lasts_to : Input → ℕ → List Last
lasts_to i zero = []
lasts_to i (suc j) = let ls = lasts_to i j in ls ++ (node_last i j ls ∷ [])
