-- A graph's row: by the definitions of the graph call, the longest path and the smallest budget, of the graph by itself.
use Rattle.std.specs.Prelude.{cond, List, ℕ, leb, length, Err, Ok}
use Rattle.rules.specs.declared.Refusal.TheVariants.{Text}
use Rattle.rules.specs.Answers.{Outcome}
use Rattle.rules.specs.Input.{Input}
use Rattle.rules.specs.Graph.{finished}
use Rattle.rules.specs.Longest.{longest}
use Rattle.rules.specs.Questions.{smallest_budget}
use Rattle.curve_numbers.specs.Parts.{plain, input_from}
use Rattle.parts.specs.Call.{numbers_outcome}
use Rattle.night_rows.specs.declared.Row.{Row}
use Rattle.night_rows.specs.Rows.{refused_row}

-- the row of a graph i whose call had this outcome, for the allowance u: 0, the states, the set-aside count, the longest path, the smallest budget; or a refusal's
abbrev pub row_for : ℕ → Input → Outcome → Row
row_for u i (Ok f) = record { refusal = 0; states = f.states; aside = f.aside.0; longest = longest i; budget = smallest_budget u (finished i).table }
row_for u i (Err r) = refused_row r

-- the row of a graph's numbers, on document 01's cache: 9 for more than 16,384 of them, a missing one or one left over; then as the graph call answers
unfoldable pub row_of : ℕ → List ℕ → Row
row_of u ns = cond (leb (length ns) 16384) (row_for u (input_from plain ns) (numbers_outcome plain ns)) (refused_row Text)
