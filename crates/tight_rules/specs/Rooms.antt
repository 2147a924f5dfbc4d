-- How much room the second analysis takes, in words of 64 bits: for its tables, for the plan of an access, for a join, and for rows beside the tables.
use Rattle.std.specs.Prelude.{Bool, false, cond, ◌||◌, ◌&&◌, List, [], ◌∷◌, ℕ, zero, suc, ◌+◌, ◌*◌, ◌^◌, max, min, eqb, leb, length}
use Rattle.rules.specs.Input.{Edge, edges_of}
use Rattle.tight_rules.specs.Asked.{Asked}

-- ---- one table

-- the cells that a row has room for: as many as it may have, but never more than there can be miss counts, 0 to all accesses, and one more
abbrev pub row_cells : Asked → ℕ
row_cells a = min a.cells (length a.accesses + 2)

-- a table: four numbers, for each contents its mask and its units, for each cell its filled numbers in two words, and a row of cells for each contents
unfoldable pub table_words : Asked → ℕ
table_words a = 4 + 2 * a.contents + 2 * row_cells a + a.contents * row_cells a

-- ---- how many tables are kept

-- whether an edge leads from node u to node v or beyond it
unfoldable pub passes : List Edge → ℕ → ℕ → Bool
passes [] u v = false
passes (e ∷ es) u v = (eqb e.from u && leb v e.to) || passes es u v

-- of the nodes below u, how many have an edge to node v or beyond it
unfoldable pub kept_below : List Edge → ℕ → ℕ → ℕ
kept_below es v zero = 0
kept_below es v (suc u) = cond (passes es u v) 1 0 + kept_below es v u

-- the most nodes that any of the first n nodes has before it that have an edge to it or beyond it: their tables are kept when it is worked
unfoldable pub most_kept : List Edge → ℕ → ℕ
most_kept es zero = 0
most_kept es (suc v) = max (kept_below es v v) (most_kept es v)

-- those that are kept, and three at work
abbrev pub tables_needed : Asked → ℕ
tables_needed a = most_kept (edges_of a.edges) (length a.lengths) + 3

-- ---- and beside the tables

-- the plan of an access: three words for each mask of the tracked blocks
abbrev pub plan_words : Asked → ℕ
plan_words a = 3 * 2 ^ length a.tracked

-- a join: what is left of both tables, and the pairs
abbrev pub join_words : Asked → ℕ
join_words a = 10 * a.contents + 10

-- eight rows with one cell more, for remainders and totals
abbrev pub row_words : Asked → ℕ
row_words a = 8 * (row_cells a + 1)

-- all of it
unfoldable pub room_needed : Asked → ℕ
room_needed a = tables_needed a * table_words a + plan_words a + join_words a + row_words a
