-- `put_chosen` meets its contract: 9 where the numbers begin with no choice, and otherwise what is put for the numbers behind it.
use mathlib.Core.Path.{refl, sym, ◌∙◌}
use native.Mathlib.Omega.{arith}
use Rattle.curve_numbers.proofs.Choices.{nothing_chosen, is_chosen, chosen_is, chosen_long}
use Rattle.writing.proofs.Putting.{put_is}
use Rattle.printed.proofs.Choices.{printed_unchosen, unchosen_unworked, printed_chosen, chosen_worked_lem}
use Rattle.printed.proofs.Rooms.{wrote_refused, wrote_same}
use Rattle.text.proofs.working.put_chosen.Goals as goal

pub slice_bounds-put_numbers-count : goal.slice_bounds-put_numbers-count
slice_bounds-put_numbers-count c =
    omega (arith, chosen_long _ _ (sym c.in-Some.is ∙ c.choice_in.ensures))

pub slice_bounds-put_numbers-start : goal.slice_bounds-put_numbers-start
slice_bounds-put_numbers-start c =
    omega (arith, chosen_long _ _ (sym c.in-Some.is ∙ c.choice_in.ensures))

pub returns-in-None : goal.returns-in-None
returns-in-None c =
    let ns = c.args.numbers.now in
    let none = nothing_chosen ns (sym c.in-None.is ∙ c.choice_in.ensures) in
    wrote_refused _ _ _ _ _ (unchosen_unworked ns none) (put_is _ _ _ _ _ _ c.put_refused.ensures (printed_unchosen ns none _)) refl refl refl

pub returns-in-Some : goal.returns-in-Some
returns-in-Some c =
    let ns = c.args.numbers.now in
    let e = sym c.in-Some.is ∙ c.choice_in.ensures in
    wrote_same _ _ _ _ _ _ _ c.put_numbers.ensures (chosen_worked_lem ns (is_chosen ns _ e) _ (chosen_is ns _ e))
    (printed_chosen ns (is_chosen ns _ e) _ (chosen_is ns _ e) _)
