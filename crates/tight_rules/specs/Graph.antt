-- A graph: each node is worked once, in order, with one table at each, from the joined tables of its predecessors.
use Rattle.std.specs.Prelude.{List, [], ◌∷◌, ◌++◌, ℕ, zero, suc, ◌-◌, length, get_or}
use Rattle.rules.specs.Input.{run_of, edges_of, predecessors}
use Rattle.rules.specs.Lasts.{last_before, lasts_to}
use Rattle.rules.specs.declared.Filled.{Filled}
use Rattle.rules.specs.Filling.{at_start}
use Rattle.rules.specs.Longest.{longest}
use Rattle.rules.specs.declared.State.{State}
use Rattle.tight_rules.specs.Asked.{Asked, graph_of}
use Rattle.tight_rules.specs.Rows.{Rows, begun, meaning, narrowed}
use Rattle.tight_rules.specs.Run.{run}
use Rattle.tight_rules.specs.Join.{join}
use Rattle.tight_rules.specs.Live.{live_after, live_before}

-- the tables of the nodes that are worked, and the units set aside over all of them
pub record Tables : Type 0 where
  pub tables : List Rows
  pub aside : ℕ

-- a table with a set aside, in place of what it has
abbrev pub with_aside : ℕ → Rows → Rows
with_aside a r = record { kept = record { table = r.kept.table; aside = a }; lost = r.lost }

-- no table, where a node is not worked yet
abbrev pub no_rows : Rows
no_rows = record { kept = record { table = []; aside = 0 }; lost = 0 }

-- what node p's table brings into a node at whose start the places L are live
abbrev pub brought : ℕ → Tables → ℕ → Rows
brought L d p = let r = get_or d.tables p no_rows in record { kept = narrowed L r.kept; lost = r.lost }

-- the tables of the nodes ps joined to r, one at a time
unfoldable pub join_all : ℕ → ℕ → ℕ → Tables → List ℕ → Rows → Rows
join_all K k L d [] r = r
join_all K k L d (p ∷ ps) r = join_all K k L d ps (join K k r.kept.aside r (brought L d p))

-- what a node starts from, whose predecessors are ps, by rising number: the first one's table, with the others joined to it; node 0 from the start
unfoldable pub enter : ℕ → ℕ → ℕ → Filled → Tables → List ℕ → Rows
enter K k L F d [] = with_aside d.aside (begun F)
enter K k L F d (p ∷ ps) = join_all K k L d ps (with_aside d.aside (brought L d p))

-- node j, after the nodes before it: its run, from where it starts
unfoldable pub node : Asked → ℕ → Tables → Rows
node a j d =
    let i = graph_of a in
    let ps = predecessors (edges_of i.edges) j in
    run a.ways a.sets a.contents a.cells a.tracked (live_after i j) (last_before (lasts_to i j) ps) (run_of i j)
    (enter a.contents (length a.tracked) (live_before i j) (at_start i) d ps)

-- so many nodes from the first on, worked in order
unfoldable pub worked : Asked → ℕ → Tables
worked a zero = record { tables = []; aside = 0 }
worked a (suc j) =
    let d = worked a j in
    let r = node a j d in
    record { tables = d.tables ++ (r ∷ []); aside = r.kept.aside }

-- the last node's table, with what is set aside over all nodes
unfoldable pub finished : Asked → Rows
finished a = get_or (worked a (length a.lengths)).tables (length a.lengths - 1) no_rows

-- the curve: the states that the last table means
unfoldable pub curve : Asked → List State
curve a = meaning (longest (graph_of a)) (finished a)
