-- `holds_less` reads the mask of the state: where it is less, it decides.
use mathlib.Core.Path.{ap, ◌∙◌}
use Rattle.rules.specs.declared.State.{State}
use Rattle.rules.specs.Table.{order, no_state}
use Rattle.words.proofs.Tables.{row_of, row_at}
use Rattle.estimate.specs.Placing.{is_after}
use Rattle.estimate.proofs.Deciding.{less_held}
use Rattle.estimate.proofs.placing.holds_less.Goals as goal

pub returns : goal.returns
returns c = let a = c.args in let w = a.words.now in
    λ h. ap (λ (t : State). is_after (order a.s t)) (row_at w a.at no_state c.requires) ∙ less_held a.s (row_of w a.at) h
