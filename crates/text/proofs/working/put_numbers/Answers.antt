-- `put_numbers` meets its contract: the refusal, 9 first, which leaves the rooms as they were; or what is wanted of the finished table, and then they are zero.
use mathlib.Core.Path.{refl, sym, ◌∙◌}
use Rattle.parts.proofs.Calls.{called}
use Rattle.writing.proofs.Putting.{put_is}
use Rattle.writing.proofs.Told.{cleared}
use Rattle.text.proofs.Printed.{printed_refused, refused_unworked, finished_worked, finished_cleared, left_finished}
use Rattle.printed.proofs.Rooms.{wrote_refused, wrote_worked}
use Rattle.text.proofs.working.put_numbers.Goals as goal

pub put_finished-requires : goal.put_finished-requires
put_finished-requires c =
    let left = called c.args.choice c.args.numbers.now c.args.res.now c.args.work.now c.requires.0 c.requires.1 _ _ _ c.analyse_numbers.ensures in
    (left_finished _ _ _ _ _ _ _ left _ _ c.in-Ok.is, c.requires.2)

pub returns-in-Err : goal.returns-in-Err
returns-in-Err c =
    let left = called c.args.choice c.args.numbers.now c.args.res.now c.args.work.now c.requires.0 c.requires.1 _ _ _ c.analyse_numbers.ensures in
    let kept = left.refused _ c.in-Err.is in
    let f = sym c.in-Err.is ∙ left.answer in
    wrote_refused _ _ _ _ _ (refused_unworked _ _ _ f) (put_is _ _ _ _ _ _ c.put_refused.ensures (printed_refused _ _ _ f _ _ c.number.ensures)) kept.0 kept.1 refl

pub returns-in-Ok : goal.returns-in-Ok
returns-in-Ok c =
    let left = called c.args.choice c.args.numbers.now c.args.res.now c.args.work.now c.requires.0 c.requires.1 _ _ _ c.analyse_numbers.ensures in
    let (wrote, result, counts) = c.put_finished.ensures in
    let states = c.in-Ok.is in
    wrote_worked _ _ _ _ _ (finished_worked _ _ _ _ _ _ _ left _ _ states) wrote (cleared _ c.analyse_numbers.new.res _ result c.analyse_numbers.auto.res)
    (finished_cleared _ _ _ _ _ _ _ left _ _ states) counts
