-- The graph call and the longest path of what a list of numbers means: 9 where a number is missing or left over, and then as for any graph.
use Rattle.std.specs.Prelude.{cond, List, ℕ, get_or, Err, Result}
use Rattle.rules.specs.declared.Refusal.{Refusal}
use Rattle.rules.specs.declared.Refusal.TheVariants.{Text}
use Rattle.rules.specs.Answers.{Outcome}
use Rattle.rules.specs.Longest.{longest_answer}
use Rattle.rules.specs.Refusals.{outcome}
use Rattle.estimate.specs.Call.{After, analysed}
use Rattle.curve_numbers.specs.declared.Choice.{Choice}
use Rattle.curve_numbers.specs.Parts.{cache_from, tracked_part, runs_part, accesses_part, edges_part, complete, input_from}

-- what the graph call leaves in its two rooms; numbers that are not complete leave both as they were
unfoldable pub numbers_left : Choice → List ℕ → List ℕ → List ℕ → After
numbers_left ch ns result work =
    cond (complete ns)
    (analysed (cache_from ch ns) (get_or ns 1 0) (tracked_part ns).numbers (runs_part ns).numbers (accesses_part ns).numbers (edges_part ns).numbers result work)
    (record { answer = Err Text; result = result; work = work })

-- what the graph call answers where there is room enough
unfoldable pub numbers_outcome : Choice → List ℕ → Outcome
numbers_outcome ch ns = cond (complete ns) (outcome (input_from ch ns)) (Err Text)

-- what is answered about the longest path
unfoldable pub numbers_longest : Choice → List ℕ → Result ℕ Refusal
numbers_longest ch ns = cond (complete ns) (longest_answer (input_from ch ns)) (Err Text)
