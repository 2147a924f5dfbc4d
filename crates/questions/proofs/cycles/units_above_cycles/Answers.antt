-- `units_above_cycles` meets its contract: a cycle budget stands for a miss budget, or does not even pay for hits.
use native.Mathlib.Nat.{le_of_eq}
use native.Mathlib.Omega.{arith}
use Rattle.questions.proofs.InCycles.{totals_whole, miss_dearer, least_fits, some_above, all_above}
use Rattle.questions.proofs.cycles.units_above_cycles.Goals as goal

pub overflow_mul-least : goal.overflow_mul-least
overflow_mul-least c = omega (arith, least_fits _ _ _ c.requires _ c.core_at-c.ensures)

pub misses_paid-requires : goal.misses_paid-requires
misses_paid-requires c = (miss_dearer _ _ _ c.requires _ c.core_at-c.ensures, omega arith)

pub units_above-requires : goal.units_above-requires
units_above-requires c = le_of_eq (totals_whole _ _ _ c.requires)

pub returns-then-least-budget : goal.returns-then-least-budget
returns-then-least-budget c =
    some_above _ _ _ c.requires _ c.core_at-c.ensures _ (omega arith) _ c.misses_paid.ensures _ c.units_above.ensures

pub returns : goal.returns
returns c = all_above _ _ _ c.requires _ c.core_at-c.ensures _ (omega arith)
