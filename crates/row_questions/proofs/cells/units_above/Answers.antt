-- `units_above` meets its contract: the units of the cells behind the budget's, of which there are no more than of all.
use mathlib.Core.Path.{◌∙◌}
use native.Mathlib.Omega.{arith}
use Rattle.row_questions.proofs.Standing.{none_above, lent_few, lent_above}
use Rattle.row_questions.proofs.cells.units_above.Goals as goal

pub returns-then-row-budget : goal.returns-then-row-budget
returns-then-row-budget c = none_above c.args.row.now c.args.budget c.if-row-budget.true

pub units_in-requires : goal.units_in-requires
units_in-requires c = omega (arith, lent_few c.args.row.now c.args.budget, c.requires)

pub returns : goal.returns
returns c = c.units_in.ensures ∙ lent_above c.args.row.now c.args.budget
