-- `longest_of_numbers` meets its contract, as `analyse_numbers` does: where the last part ends with the list, what lies between the ends is what the numbers mean.
use mathlib.Core.Path.{sym, ◌∙◌}
use Rattle.curve_numbers.specs.Places.{Ends}
use Rattle.curve_numbers.proofs.Places.{ends_in_order, not_ends}
use Rattle.parts.proofs.Calls.{longest_incomplete}
use Rattle.parts.proofs.longest_of_numbers.Goals as goal

pub returns-then-last-numbers : goal.returns-then-last-numbers
returns-then-last-numbers c =
    let a = c.args in
    longest_incomplete a.choice a.numbers.now
    (not_ends _ _ _ _ _ c.end_of-first.ensures c.end_of-second.ensures c.end_of-third.ensures c.end_of-last.ensures c.if-last-numbers.true)

pub longest_in-requires : goal.longest_in-requires
longest_in-requires c =
    let here : Ends c.args.numbers.now c.end_of-first.result c.end_of-second.result c.end_of-third.result =
    record { tracked = c.end_of-first.ensures; runs = c.end_of-second.ensures; accesses = c.end_of-third.ensures; edges = sym c.end_of-last.ensures ∙ c.if-last-numbers.false } in
    let order = ends_in_order _ _ _ _ here in
    (here, order.0, order.1, order.2, order.3)
