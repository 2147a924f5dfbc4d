-- The second analysis' table. It is a list of document 01's states, so that the laws of those serve: the states of one contents mask are its row, one for each miss
-- count that has units, and nothing limits how many a row has but its ends (Ends.antt). Beside them are the lost units, which count as if every access missed.
use Rattle.std.specs.Prelude.{cond, List, [], ◌∷◌, map, ℕ, eqb}
use Rattle.basics.specs.Sums.{sum_over}
use Rattle.rules.specs.Units.{more}
use Rattle.rules.specs.declared.Filled.{Filled}
use Rattle.rules.specs.Filling.{fullest}
use Rattle.rules.specs.declared.State.{State}
use Rattle.rules.specs.Table.{state, units_of, begin, add, no_state, Work}
use Rattle.rules.specs.Fold.{changed}
use Rattle.rules.specs.Contents.{shared}

-- the rows with what is set aside, and the lost units
pub record Rows : Type 0 where
  pub kept : Work
  pub lost : ℕ

-- the start: nothing held, 0 misses, WHOLE units; F may be filled; nothing set aside and nothing lost
abbrev pub begun : Filled → Rows
begun F = record { kept = record { table = begin F; aside = 0 }; lost = 0 }

-- a table means its states and one more: nothing held and as many misses as the longest path has accesses, L, with the lost units
unfoldable pub meaning : ℕ → Rows → List State
meaning L r = state 0 L no_state.filled r.lost ∷ r.kept.table

-- ---- contents

-- one contents more before those that are listed, unless it is the first of them
abbrev pub listed : ℕ → List ℕ → List ℕ
listed C [] = C ∷ []
listed C (D ∷ Ds) = cond (eqb C D) (D ∷ Ds) (C ∷ D ∷ Ds)

-- the contents of a table, each once: its states rise by mask, so that those of one mask stand together
unfoldable pub contents : List State → List ℕ
contents [] = []
contents (s ∷ T) = listed s.mask (contents T)

-- the units of contents C, over its whole row
unfoldable pub units_in : ℕ → List State → ℕ
units_in C T = sum_over (λ s. cond (eqb s.mask C) (units_of s) 0) T

-- ---- states that move

-- each state becomes what h makes of it; those that are then in the same place are added together
unfoldable pub move : (State → State) → List State → List State
move h T = add (map h T) []

-- and the units of those that changed are set aside
unfoldable pub moved : (State → State) → Work → Work
moved h w = record { table = move h w.table; aside = more w.aside (sum_over (λ s. changed s (h s)) w.table) }

-- s with only those of its blocks that are in L
abbrev pub narrow : ℕ → State → State
narrow L s = state (shared s.mask L) s.misses s.filled (units_of s)

-- the blocks that no path ahead accesses leave all contents, L being the others: nothing is set aside
unfoldable pub narrowed : ℕ → Work → Work
narrowed L w = record { table = move (narrow L) w.table; aside = w.aside }

-- ---- the filled numbers: those of a miss count, and not of a state (document 02, request 6/13)

-- the larger number of each set over the states with m misses
unfoldable pub filled_for : ℕ → List State → Filled
filled_for m [] = no_state.filled
filled_for m (s ∷ T) = cond (eqb s.misses m) (fullest s.filled (filled_for m T)) (filled_for m T)

-- s with at least the numbers that G has for its miss count
abbrev pub even_by : (ℕ → Filled) → State → State
even_by G s = state s.mask s.misses (fullest s.filled (G s.misses)) (units_of s)

-- s with those of its table
abbrev pub even : List State → State → State
even T s = even_by (λ m. filled_for m T) s

-- all states with the same number of misses have the same filled numbers, so that a row has one cell for each miss count
unfoldable pub evened : Work → Work
evened w = moved (even w.table) w
