-- When the nightly build is refused as a whole.
use Rattle.std.specs.Prelude.{◌||◌, not, List, [], ◌∷◌, ℕ, ◌/◌, ltb, length}
use Rattle.rules.specs.declared.Refusal.TheVariants.{Nightly, Room}
use Rattle.rules.specs.Answers.{Reason, when}
use Rattle.night_rows.specs.Graphs.{exactly, graphs_in}

-- 20, then 6, of rooms with five words to a row and to a state
abbrev pub build_reasons : List ℕ → ℕ → ℕ → List Reason
build_reasons ns rows work =
    when (not (exactly ns) || ltb (rows / 5) (length (graphs_in ns))) Nightly ∷ when (ltb (work / 5) 5248) Room ∷ []
