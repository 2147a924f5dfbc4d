-- Tables in lent words: five words a state, in order. What is left of fewer than five words is no state.
use Rattle.std.specs.Prelude.{List, [], ◌∷◌, ℕ, ◌+◌, ◌*◌, set}
use Rattle.rules.specs.declared.State.{State}
use Rattle.rules.specs.Table.{state, units_of}

-- the states in a list of words
unfoldable pub table_of : List ℕ → List State
table_of [] = []
table_of (a ∷ []) = []
table_of (a ∷ b ∷ []) = []
table_of (a ∷ b ∷ c ∷ []) = []
table_of (a ∷ b ∷ c ∷ d ∷ []) = []
table_of (a ∷ b ∷ c ∷ d ∷ e ∷ ws) = state a b (record { front = c; back = d }) e ∷ table_of ws

-- the words of a list of states
unfoldable pub words_of : List State → List ℕ
words_of [] = []
words_of (s ∷ T) = s.mask ∷ s.misses ∷ s.filled.front ∷ s.filled.back ∷ units_of s ∷ words_of T

-- the words with the state s at place i
abbrev pub stored : List ℕ → ℕ → State → List ℕ
stored ws i s =
    set (set (set (set (set ws (i * 5) s.mask) (i * 5 + 1) s.misses) (i * 5 + 2) s.filled.front) (i * 5 + 3) s.filled.back)
    (i * 5 + 4) (units_of s)
