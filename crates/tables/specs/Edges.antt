-- The flat list of edges: the edges into a node.
use Rattle.std.specs.Prelude.{◌≡◌, cond, List, [], ◌∷◌, ℕ, suc, ◌+◌, ◌<◌, eqb, ltb, length, get_or, drop}
use Rattle.rules.specs.Input.{edges_of, predecessors}

-- the nodes that edges into node j come from, of the edges from place e of the list on
abbrev pub came_from : List ℕ → ℕ → ℕ → List ℕ
came_from ns j e = predecessors (edges_of (drop e ns)) j

-- an edge into node j stands at place e, or the list ends there
abbrev pub AtEdge : List ℕ → ℕ → ℕ → Type 0
AtEdge ns j e = e < length ns → (e + 1 < length ns) × (get_or ns (e + 1) 0 ≡ j)

-- how many numbers stand before the first edge into node j
unfoldable pub numbers_before : ℕ → List ℕ → ℕ
numbers_before j [] = 0
numbers_before j (a ∷ []) = 1
numbers_before j (a ∷ b ∷ ns) = cond (eqb b j) 0 (suc (suc (numbers_before j ns)))

-- where the first of them from place e on stands; the list's end if there is none
unfoldable pub next_edge : List ℕ → ℕ → ℕ → ℕ
next_edge ns j e = cond (ltb (length ns) e) (length ns) (e + numbers_before j (drop e ns))
