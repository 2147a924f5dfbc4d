-- The best case's graph call of what a list of numbers means: 9 where a number is missing or left over, and then as for any graph.
use Rattle.std.specs.Prelude.{cond, List, ℕ, get_or, Err}
use Rattle.rules.specs.declared.Refusal.TheVariants.{Text}
use Rattle.best.specs.Call.{After, best_analysed}
use Rattle.curve_numbers.specs.Parts.{tracked_part, runs_part, accesses_part, edges_part, complete}

-- what the call leaves in its two rooms, with Z sets and revision v; numbers that are not complete leave both as they were
unfoldable pub best_numbers_left : ℕ → ℕ → List ℕ → List ℕ → List ℕ → After
best_numbers_left Z v ns result work =
    cond (complete ns)
    (best_analysed Z (get_or ns 0 0) v (get_or ns 1 0) (tracked_part ns).numbers (runs_part ns).numbers (accesses_part ns).numbers (edges_part ns).numbers result work)
    (record { answer = Err Text; result = result; work = work })
