-- A row: a refused graph's, and a row in words.
use Rattle.std.specs.Prelude.{cond, List, [], ◌∷◌, ℕ, eqb, length}
use Rattle.rules.specs.declared.Refusal.{Refusal}
use Rattle.rules.specs.Answers.{number_of}
use Rattle.night_rows.specs.declared.Row.{Row}

-- a number, and zeros
abbrev pub number_row : ℕ → Row
number_row n = record { refusal = n; states = 0; aside = 0; longest = 0; budget = 0 }

-- a refused graph's row: its number, and zeros
abbrev pub refused_row : Refusal → Row
refused_row r = number_row (number_of r)

-- a row in words
abbrev pub row_words : Row → List ℕ
row_words r = r.refusal ∷ r.states ∷ r.aside ∷ r.longest ∷ r.budget ∷ []

-- rows in words, five each
unfoldable pub rows_words : List Row → List ℕ
rows_words [] = []
rows_words (r ∷ rs) = r.refusal ∷ r.states ∷ r.aside ∷ r.longest ∷ r.budget ∷ rows_words rs

-- a room after a row was put into it: the row's words, where it has five words
unfoldable pub row_put : Row → List ℕ → List ℕ
row_put r room = cond (eqb (length room) 5) (row_words r) room
