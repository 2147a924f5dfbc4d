-- A lent row of states, by value: its first states as words, 65 at most. Of document 01's states, and of the best case's.
use Rattle.std.specs.Prelude.{cond, List, [], ◌∷◌, ℕ, ◌+◌, ltb, take, replicate}
use Rattle.rules.specs.declared.State.{State}
use Rattle.rules.specs.declared.BestState.{BestState}
use Rattle.words.specs.Tables as words
use Rattle.words.specs.BestTables as bestWords
use Rattle.rows.specs.declared.row.Held.{Held}

-- how states lie in words: the table of some words, and the words with a state at a place
pub record InWords (A : Type 0) : Type 0 where
  pub table_of : List ℕ → List A
  pub stored : List ℕ → ℕ → A → List ℕ

-- document 01's states
abbrev pub states : InWords State
states = record { table_of = words.table_of; stored = words.stored }

-- the best case's states
abbrev pub best_states : InWords BestState
best_states = record { table_of = bestWords.table_of; stored = bestWords.stored }

-- no state is held
abbrev pub nothing_held : Held
nothing_held = record { states = 0; words = replicate 325 0 }

-- one after the other, each in its way
abbrev pub more_of : {A : Type 0} → (Held → A → Held) → Held → List A → Held
more_of more h [] = h
more_of more h (s ∷ row) = more_of more (more h s) row

module _ {A : Type 0} (k : InWords A) where
  -- the states that are held
  abbrev pub states_of : Held → List A
  states_of h = take h.states (k.table_of h.words)

  -- one state more, where there is room for it
  abbrev pub one_more : Held → A → Held
  one_more h s = cond (ltb 64 h.states) h (record { states = h.states + 1; words = k.stored h.words h.states s })

  -- the states of a row, as far as there is room
  abbrev pub copied : List A → Held
  copied row = more_of one_more nothing_held row
