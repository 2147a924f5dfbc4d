-- `analyse_numbers` meets its contract: where the last part ends with the list, what lies between the ends is what the numbers mean; otherwise the list is not complete.
use mathlib.Core.Path.{sym, ◌∙◌}
use Rattle.curve_numbers.specs.Places.{Ends}
use Rattle.curve_numbers.proofs.Places.{ends_in_order, not_ends}
use Rattle.parts.proofs.Calls.{left_incomplete}
use Rattle.parts.proofs.analyse_numbers.Goals as goal

pub returns-then-end_of-numbers : goal.returns-then-end_of-numbers
returns-then-end_of-numbers c =
    let a = c.args in
    left_incomplete a.choice a.numbers.now _ _
    (not_ends _ _ _ _ _ c.end_of-first.ensures c.end_of-second.ensures c.end_of-third.ensures c.end_of.ensures c.if-end_of-numbers.true)

pub call-requires : goal.call-requires
call-requires c =
    let here : Ends c.args.numbers.now c.end_of-first.result c.end_of-second.result c.end_of-third.result =
    record { tracked = c.end_of-first.ensures; runs = c.end_of-second.ensures; accesses = c.end_of-third.ensures; edges = sym c.end_of.ensures ∙ c.if-end_of-numbers.false } in
    let order = ends_in_order _ _ _ _ here in
    (here, order.0, order.1, order.2, order.3)
