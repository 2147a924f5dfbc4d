-- `row_of` meets its contract: the row is said by what the graph call answers, and by the longest path and the smallest budget of what it leaves.
use mathlib.Core.Path.{sym, ap, ◌∙◌}
use mathlib.Core.List.{List}
use Rattle.rules.specs.declared.State.{State}
use Rattle.rules.specs.Questions.{smallest_budget}
use Rattle.curve_numbers.specs.declared.Choice.{Choice}
use Rattle.curve_numbers.specs.Parts.{plain}
use Rattle.parts.specs.Call.{numbers_left}
use Rattle.parts.proofs.Calls.{Called, called, worked_complete, worked_accepted, worked_table, table_there}
use Rattle.nightly.proofs.OneRow.{row_long, row_refused, row_finished}
use Rattle.nightly.proofs.rows.row_of.Goals as goal
use Rattle.nightly.proofs.rows.row_of.Goals.{After-analyse_numbers}

-- what the graph call left
left : (c : After-analyse_numbers) → Called plain c.args.numbers.now c.analyse_numbers.result c.args.res.now c.args.work.now c.analyse_numbers.new.res c.analyse_numbers.new.work
left c =
    called plain c.args.numbers.now c.args.res.now c.args.work.now c.requires.0 c.requires.1 _ _ _
    (c.analyse_numbers.ensures ∙ ap (λ (ch : Choice). numbers_left ch c.args.numbers.now c.args.res.now c.args.work.now) c.plain_choice.ensures)

pub returns-then-numbers-gt16384 : goal.returns-then-numbers-gt16384
returns-then-numbers-gt16384 c = c.refused_row.ensures ∙ row_long c.args.allowance c.args.numbers.now c.if-numbers-gt16384.true

pub longest_of-longest-requires : goal.longest_of-longest-requires
longest_of-longest-requires c =
    let f = sym c.in-Ok.is ∙ (left (goal.at.longest_of-longest-requires c).After-analyse_numbers).answer in
    (worked_complete plain c.args.numbers.now _ _ f, worked_accepted plain c.args.numbers.now _ _ f)

pub budget_of-budget-requires : goal.budget_of-budget-requires
budget_of-budget-requires c =
    let f = c.in-Ok.is in
    rw (table_there plain c.args.numbers.now _ _ _ _ _ (left (goal.at.budget_of-budget-requires c).After-analyse_numbers) _ _ f) (worked_table plain c.args.numbers.now _ _ (sym f ∙ (left (goal.at.budget_of-budget-requires c).After-analyse_numbers).answer))

pub returns-in-Err : goal.returns-in-Err
returns-in-Err c =
    c.refused_row-in-Err.ensures ∙ row_refused c.args.allowance c.args.numbers.now c.if-numbers-gt16384.false _ (left (goal.at.returns-in-Err c).After-analyse_numbers).answer _ c.in-Err.is _ c.number.ensures

pub returns-in-Ok : goal.returns-in-Ok
returns-in-Ok c =
    let f = c.in-Ok.is in
    row_finished c.args.allowance c.args.numbers.now c.if-numbers-gt16384.false _ (left (goal.at.returns-in-Ok c).After-analyse_numbers).answer _ _ f _ _ c.longest_of-longest.ensures
    (c.budget_of-budget.ensures ∙ ap (λ (T : List State). smallest_budget c.args.allowance T) (table_there plain c.args.numbers.now _ _ _ _ _ (left (goal.at.returns-in-Ok c).After-analyse_numbers) _ _ f))
