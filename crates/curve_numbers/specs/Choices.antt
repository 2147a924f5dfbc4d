-- Which cache it is beside its ways, where the numbers choose it. Then three numbers stand before the curve's: the set count, the revision and the start, 0 for an
-- empty cache and 1 for a used one. A number missing there, or another start, is malformed.
use Rattle.std.specs.Prelude.{Bool, cond, ◌&&◌, List, ℕ, eqb, leb, length, get_or, Option, Some, None}
use Rattle.rules.specs.declared.Start.{Start}
use Rattle.rules.specs.declared.Start.TheVariants.{Cold as cold, Warm as warm}
use Rattle.curve_numbers.specs.declared.Choice.{Choice}

-- the start that a number stands for
abbrev pub start_of : ℕ → Start
start_of n = cond (eqb n 0) cold warm

-- whether numbers begin with a choice: none of the three is missing, and the start is 0 or 1
unfoldable pub chooses : List ℕ → Bool
chooses ns = leb 3 (length ns) && leb (get_or ns 2 0) 1

-- what they choose
abbrev pub choice_in : List ℕ → Choice
choice_in ns = record { sets = get_or ns 0 0; revision = get_or ns 1 0; start = start_of (get_or ns 2 0) }

-- what they begin with
unfoldable pub chosen_in : List ℕ → Option Choice
chosen_in ns = cond (chooses ns) (Some (choice_in ns)) None
