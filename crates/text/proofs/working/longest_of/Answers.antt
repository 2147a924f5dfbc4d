-- `longest_of` meets its contract: an accepted input is not refused.
use Rattle.parts.proofs.Calls.{longest_told, longest_not_refused}
use Rattle.text.proofs.working.longest_of.Goals as goal

pub returns-in-Ok : goal.returns-in-Ok
returns-in-Ok c =
    let p = c.requires in
    longest_told _ _ p.0 p.1 _ c.longest_of_numbers.ensures _ c.in-Ok.is

pub returns-in-Err : goal.returns-in-Err
returns-in-Err c =
    let p = c.requires in
    absurd (longest_not_refused _ _ p.0 p.1 _ c.longest_of_numbers.ensures _ c.in-Err.is)
