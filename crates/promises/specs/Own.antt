-- Document 01's own pairings, as they may be handed in (document 02, request 11/13): the walk from the front at every join of a graph, told in numbers.
use mathlib.Core.List.{List, [], ◌∷◌, ◌++◌, map, flat_map}
use Rattle.std.specs.Prelude.{ℕ, zero, suc, length}
use Rattle.rules.specs.AnyTable.{no_pairing, join_one}
use Rattle.rules.specs.Input.{Input, nodes, edges_of, predecessors}
use Rattle.rules.specs.Table.{Work}
use Rattle.rules.specs.Fold.{states}
use Rattle.rules.specs.Join.{Match, from_front}
use Rattle.rules.specs.Graph.{Worked, table_at, worked}

-- at the joins of the tables of the nodes ps to that of w
unfoldable pub own_joins : ℕ → Worked → List ℕ → Work → List (List Match)
own_joins K d [] w = []
own_joins K d (p ∷ ps) w = from_front w.table (table_at d p) ∷ own_joins K d ps (join_one states no_pairing K w (table_at d p))

-- at a node whose predecessors are ps
unfoldable pub own_at : ℕ → Worked → List ℕ → List (List Match)
own_at K d [] = []
own_at K d (p ∷ ps) = own_joins K d ps (record { table = table_at d p; aside = d.aside })

-- at so many nodes from the first on
unfoldable pub own_pairings : Input → ℕ → List (List Match)
own_pairings i zero = []
own_pairings i (suc j) = own_pairings i j ++ own_at i.limit (worked i j) (predecessors (edges_of i.edges) j)

-- the rows of a pairing, three numbers each
unfoldable pub numbers_of : List Match → List ℕ
numbers_of [] = []
numbers_of (m ∷ P) = m.left ∷ m.right ∷ m.units ∷ numbers_of P

-- for each join of the graph how many rows its pairing has
abbrev pub own_counts : Input → List ℕ
own_counts i = map (λ P. length P) (own_pairings i (nodes i))

-- and the rows of all
abbrev pub own_rows : Input → List ℕ
own_rows i = flat_map numbers_of (own_pairings i (nodes i))
