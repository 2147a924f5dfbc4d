-- `put_wanted` meets its contract: what is printed of a finished table is the curve, or the curves in cycles with the longest path.
use mathlib.Core.Path.{sym, ap, ◌∙◌}
use Rattle.writing.proofs.Putting.{put_is}
use Rattle.printed.specs.declared.Wanted.{Wanted}
use Rattle.printed.specs.Printed.{of_numbers}
use Rattle.printed.specs.Wanted.{wanted_text}
use Rattle.text.proofs.working.put_wanted.Goals as goal

pub put_curve-requires : goal.put_curve-requires
put_curve-requires c =
    let (done, room) = c.requires in
    (done.table, room)

pub longest_of-longest-requires : goal.longest_of-longest-requires
longest_of-longest-requires c =
    let (done, room) = c.requires in
    (done.whole, done.accepted)

pub put_cycles-requires : goal.put_cycles-requires
put_cycles-requires c =
    let (done, room) = c.requires in
    let longest = c.longest_of-longest.ensures in
    (done.table, rw longest done.covered, rw longest done.few, room)

pub returns-in-Misses : goal.returns-in-Misses
returns-in-Misses c =
    put_is _ _ _ _ _ _ c.put_curve.ensures
    (c.requires.0.curve_is ∙ sym (ap (λ (w : Wanted). of_numbers (wanted_text w) c.args.choice c.args.numbers.now) c.in-Misses.is))

pub returns-in-Cycles : goal.returns-in-Cycles
returns-in-Cycles c =
    put_is _ _ _ _ _ _ c.put_cycles.ensures
    (c.requires.0.cycles_are _ c.longest_of-longest.ensures
    ∙ sym (ap (λ (w : Wanted). of_numbers (wanted_text w) c.args.choice c.args.numbers.now) c.in-Cycles.is))
