-- `has_edge_out` meets its contract. The invariant of its loop: every node but the last has an edge out where each below j - 1 has.
use mathlib.Core.Path.{◌≡◌}
use mathlib.Core.Bool.{Bool, ◌||◌}
use mathlib.Core.List.{List, map}
use Prim.Native.Nat.{ℕ, suc, ◌-◌}
use lib.Dec.{eqb}
use Rattle.rules.specs.Contents.{among}
use Rattle.rules.specs.Input.{edges_of}
use Rattle.rules.specs.Refusals.{each_below, has_edge_out}
use Rattle.graph_check.proofs.has_edge_out.Given as goal

-- whether node k, unless it is the last of n, has an edge out
abbrev pub out : ℕ → List ℕ → ℕ → Bool
out n ns k = eqb (suc k) n || among (map (λ e. e.from) (edges_of ns)) k

abbrev pub invariant-loop-j : goal.invariant-loop-j
invariant-loop-j l = each_below (l.j - 1) (out l.n l.edges) ≡ has_edge_out l.n (edges_of l.edges)
