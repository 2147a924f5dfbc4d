-- The best case's tables in lent words: five words a state, in order: 1 for an exact state and another number, 0 where it is written, for an open one,
-- the mask, the misses, the hits and the units. What is left of fewer than five words is no state.
use Rattle.std.specs.Prelude.{Bool, cond, List, [], ◌∷◌, ℕ, ◌+◌, ◌*◌, eqb, set}
use Rattle.rules.specs.declared.BestState.{BestState}
use Rattle.rules.specs.Units.{units}
use Rattle.rules.specs.Best.{misses_of, hits_of, units_of}

-- the word that says whether a state is exact
abbrev pub flag_of : Bool → ℕ
flag_of exact = cond exact 1 0

-- the state of five words
abbrev pub best_state : ℕ → ℕ → ℕ → ℕ → ℕ → BestState
best_state e C m h u = record { exact = eqb e 1; mask = C; misses = record { 0 = m }; hits = record { 0 = h }; units = units u }

-- the states in a list of words
unfoldable pub table_of : List ℕ → List BestState
table_of [] = []
table_of (a ∷ []) = []
table_of (a ∷ b ∷ []) = []
table_of (a ∷ b ∷ c ∷ []) = []
table_of (a ∷ b ∷ c ∷ d ∷ []) = []
table_of (a ∷ b ∷ c ∷ d ∷ e ∷ ws) = best_state a b c d e ∷ table_of ws

-- the words of a list of states
unfoldable pub words_of : List BestState → List ℕ
words_of [] = []
words_of (s ∷ T) = flag_of s.exact ∷ s.mask ∷ misses_of s ∷ hits_of s ∷ units_of s ∷ words_of T

-- the words with the state s at place i
abbrev pub stored : List ℕ → ℕ → BestState → List ℕ
stored ws i s =
    set (set (set (set (set ws (i * 5) (flag_of s.exact)) (i * 5 + 1) s.mask) (i * 5 + 2) (misses_of s)) (i * 5 + 3) (hits_of s))
    (i * 5 + 4) (units_of s)
