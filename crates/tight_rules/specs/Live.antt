-- Which blocks are accessed on some path ahead, in one pass over the nodes from the last to the first.
use Rattle.std.specs.Prelude.{cond, List, [], ◌∷◌, ℕ, zero, suc, ◌-◌, eqb, get_or}
use Rattle.std.specs.Int.Bits.{bit_or}
use Rattle.rules.specs.Input.{Input, nodes, run_of, Edge, edges_of}
use Rattle.tight_rules.specs.Run.{living}

-- the places live at the start of node w, where ls lists them for the nodes behind node v
abbrev pub live_at : List ℕ → ℕ → ℕ → ℕ
live_at ls v w = get_or ls (w - suc v) 0

-- the places live behind node v's run: those of each node that an edge leads to
unfoldable pub after_node : List ℕ → ℕ → List Edge → ℕ
after_node ls v [] = 0
after_node ls v (e ∷ es) = cond (eqb e.from v) (bit_or (live_at ls v e.to) (after_node ls v es)) (after_node ls v es)

-- for each of the last n nodes, in order, the places live at its start: those that its run accesses, and those behind it
unfoldable pub lives_of : Input → ℕ → List ℕ
lives_of i zero = []
lives_of i (suc n) =
    let ls = lives_of i n in
    let v = nodes i - suc n in
    living i.tracked (after_node ls v (edges_of i.edges)) (run_of i v) ∷ ls

-- the places live behind node v's run
unfoldable pub live_after : Input → ℕ → ℕ
live_after i v = after_node (lives_of i (nodes i - suc v)) v (edges_of i.edges)

-- and at its start
unfoldable pub live_before : Input → ℕ → ℕ
live_before i v = living i.tracked (live_after i v) (run_of i v)
