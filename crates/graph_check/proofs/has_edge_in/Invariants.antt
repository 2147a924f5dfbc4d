-- `has_edge_in` meets its contract. The invariant of its loop: every node but node 0 has an edge in where each below j has.
use mathlib.Core.Path.{◌≡◌}
use mathlib.Core.Bool.{Bool, ◌||◌}
use mathlib.Core.List.{List, map}
use Prim.Native.Nat.{ℕ}
use lib.Dec.{eqb}
use Rattle.rules.specs.Contents.{among}
use Rattle.rules.specs.Input.{edges_of}
use Rattle.rules.specs.Refusals.{each_below, has_edge_in}
use Rattle.graph_check.proofs.has_edge_in.Given as goal

-- whether node k, unless it is node 0, has an edge in
abbrev pub into : List ℕ → ℕ → Bool
into ns k = eqb k 0 || among (map (λ e. e.to) (edges_of ns)) k

abbrev pub invariant-loop-j : goal.invariant-loop-j
invariant-loop-j l = each_below l.j (into l.edges) ≡ has_edge_in l.n (edges_of l.edges)
