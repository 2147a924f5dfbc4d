-- A graph: document 01, section 3; document 02, requests 3/13, 6/13, 11/13 and 12/13. Each node is worked once, in order, from the joined tables of its
-- predecessors: said for every kind of table (AnyTable.antt), and here for document 01's, without pairings that are handed in and with them.
use Rattle.std.specs.Prelude.{Bool, List, ℕ}
use Rattle.rules.specs.AnyTable.{Worked as AnyWorked, table_at as table_at_of, join_all as join_all_of, enter as enter_of, node as node_of, worked as worked_of, finished as finished_of, Entries, join_all_by as join_all_by_of, enter_by as enter_by_of, worked_by as worked_by_of, finished_by as finished_by_of, joins_fit as joins_fit_of, enter_fits as enter_fits_of, all_fit as all_fit_of}
use Rattle.rules.specs.Input.{Input}
use Rattle.rules.specs.Filling.{Filled}
use Rattle.rules.specs.Table.{State, initial, Work}
unfoldable pub use Rattle.rules.specs.Lasts.{last_at, agree_all, last_before, node_last, lasts_to}
unfoldable pub use Rattle.rules.specs.Filling.{is_cold, starts_empty, at_start}
use Rattle.rules.specs.Fold.{states}

-- the tables of the nodes that are worked, and the units set aside over all of them
abbrev pub Worked : Type 0
Worked = AnyWorked State

-- node j's table; none where it is not worked yet
abbrev pub table_at : Worked → ℕ → List State
table_at d j = table_at_of d j

-- the tables of the nodes ps joined to that of w: one at a time, each join folded before the next
abbrev pub join_all : ℕ → Worked → List ℕ → Work → Work
join_all K d ps w = join_all_of states K d ps w

-- what a node starts from, whose predecessors are ps: the first one's table (the lowest: `predecessors_rise` in proofs/Refusals.antt), with the others joined to
-- it; node 0 from the start, where F may be filled
abbrev pub enter : ℕ → Filled → Worked → List ℕ → Work
enter K F d ps = enter_of states K (initial F) d ps

-- node j, after the nodes before it: its run, from where it starts
abbrev pub node : Input → ℕ → Worked → Work
node i j d = node_of states i j d

-- so many nodes from the first on, worked in order
abbrev pub worked : Input → ℕ → Worked
worked i n = worked_of states i n

-- the finished table is the last node's, and the set-aside count is that of all nodes
abbrev pub finished : Input → Work
finished i = finished_of states i

-- ---- with a pairing or none for each join

-- the tables of the nodes ps joined to that of w
abbrev pub join_all_by : Entries → ℕ → Worked → List ℕ → Work → Work
join_all_by q K d ps w = join_all_by_of states q K d ps w

-- what a node starts from, whose predecessors are ps
abbrev pub enter_by : Entries → ℕ → Filled → Worked → List ℕ → Work
enter_by q K F d ps = enter_by_of states q K (initial F) d ps

-- so many nodes from the first on, worked in order
abbrev pub worked_by : Entries → Input → ℕ → Worked
worked_by q i n = worked_by_of states q i n

-- the finished table, and the set-aside count
abbrev pub finished_by : Entries → Input → Work
finished_by q i = finished_by_of states q i

-- each pairing that is handed in is accepted, at the joins of the nodes ps to w
abbrev pub joins_fit : Entries → ℕ → Worked → List ℕ → Work → Bool
joins_fit q K d ps w = joins_fit_of states q K d ps w

-- at a node whose predecessors are ps
abbrev pub enter_fits : Entries → ℕ → Worked → List ℕ → Bool
enter_fits q K d ps = enter_fits_of states q K d ps

-- at so many nodes from the first on
abbrev pub all_fit : Entries → Input → ℕ → Bool
all_fit q i n = all_fit_of states q i n
