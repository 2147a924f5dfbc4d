-- `longest_of` meets its contract: an accepted input is not refused.
use mathlib.Core.Path.{ap, ◌∙◌}
use Rattle.curve_numbers.specs.declared.Choice.{Choice}
use Rattle.curve_numbers.specs.Parts.{plain}
use Rattle.parts.specs.Call.{numbers_longest}
use Rattle.parts.proofs.Calls.{longest_told, longest_not_refused}
use Rattle.nightly.proofs.rows.longest_of.Goals as goal

pub returns-in-Ok : goal.returns-in-Ok
returns-in-Ok c =
    let is = c.longest_of_numbers.ensures ∙ ap (λ (ch : Choice). numbers_longest ch c.args.numbers.now) c.plain_choice.ensures in
    longest_told plain c.args.numbers.now c.requires.0 c.requires.1 _ is _ c.in-Ok.is

pub returns-in-Err : goal.returns-in-Err
returns-in-Err c =
    let is = c.longest_of_numbers.ensures ∙ ap (λ (ch : Choice). numbers_longest ch c.args.numbers.now) c.plain_choice.ensures in
    absurd (longest_not_refused plain c.args.numbers.now c.requires.0 c.requires.1 _ is _ c.in-Err.is)
