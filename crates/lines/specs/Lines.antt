-- The lines of a curve: what is first said of a table, and a line for each miss count.
use Rattle.std.specs.Prelude.{List, [], ◌∷◌, ◌++◌, ℕ, zero, suc}
use Rattle.rules.specs.declared.State.{State}
use Rattle.rules.specs.Questions.{units_at, largest, above}
use Rattle.writing.specs.Writing.{decimal}

-- "states "
abbrev pub states_word : List ℕ
states_word = 115 ∷ 116 ∷ 97 ∷ 116 ∷ 101 ∷ 115 ∷ 32 ∷ []

-- " aside "
abbrev pub aside_word : List ℕ
aside_word = 32 ∷ 97 ∷ 115 ∷ 105 ∷ 100 ∷ 101 ∷ 32 ∷ []

-- the number of states and the set-aside count
unfoldable pub head_words : ℕ → ℕ → List ℕ
head_words n aside = states_word ++ decimal n ++ aside_word ++ decimal aside

-- they alone on a line
abbrev pub head_line : ℕ → ℕ → List ℕ
head_line n aside = head_words n aside ++ (10 ∷ [])

-- misses or what they stand for, units there, units above
unfoldable pub count_line : ℕ → ℕ → ℕ → List ℕ
count_line m u v = decimal m ++ (32 ∷ []) ++ decimal u ++ (32 ∷ []) ++ decimal v ++ (10 ∷ [])

-- the lines of each number below n, in order
unfoldable pub lines_below : (ℕ → List ℕ) → ℕ → List ℕ
lines_below lines zero = []
lines_below lines (suc n) = lines_below lines n ++ lines n

-- a miss count of the table T
abbrev pub curve_line : List State → ℕ → List ℕ
curve_line T m = count_line m (units_at m T) (above m T)

-- a line for each miss count from 0 to the largest
abbrev pub curve_lines : List State → List ℕ
curve_lines T = lines_below (curve_line T) (suc (largest T))
