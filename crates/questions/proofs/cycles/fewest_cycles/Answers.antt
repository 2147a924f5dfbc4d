-- `fewest_cycles` meets its contract: 0 where every unit may be above, and otherwise the cycles of the smallest miss budget.
use native.Mathlib.Nat.{le_of_eq}
use native.Mathlib.Omega.{arith}
use Rattle.questions.proofs.InCycles.{totals_whole, cycles_fit, some_needed, none_needed}
use Rattle.questions.proofs.cycles.fewest_cycles.Goals as goal

pub returns-then-whole-units : goal.returns-then-whole-units
returns-then-whole-units c = none_needed _ _ _ c.requires _ (omega (arith, c.if-whole-units.true))

pub smallest-requires : goal.smallest-requires
smallest-requires c = le_of_eq (totals_whole _ _ _ c.requires)

pub cycles_of-requires : goal.cycles_of-requires
cycles_of-requires c = cycles_fit _ _ _ c.requires _ c.core_at.ensures _ _ c.smallest.ensures

pub returns : goal.returns
returns c =
    some_needed _ _ _ c.requires _ c.core_at.ensures _ _ c.smallest.ensures (omega (arith, c.if-whole-units.false)) _ c.cycles_of.ensures
