-- `put_reading` meets its contract: what it puts is the text of what reading answers, in each of its cases.
use mathlib.Core.Path.{sym, ap, ◌∙◌}
use lib.Seq.{length-take-le}
use Rattle.recorder.specs.Calls.{ReadLeft}
use Rattle.writing.specs.Writing.{refused_line}
use Rattle.writing.proofs.Putting.{put_is, put_then}
use Rattle.traces.proofs.Saying.{reading_within, reading_said}
use Rattle.traces.proofs.put_reading.Goals as goal

-- as many numbers as are answered stand in the room
pub slice_bounds-put_numbers_line-end : goal.slice_bounds-put_numbers_line-end
slice_bounds-put_numbers_line-end c = reading_within _ _ (rw c.in-Ok-Accesses.field-0-is at c.in-Ok-Accesses.is) c.read_trace.ensures

pub slice_bounds-put_numbers_line-end-in-Ok-Accesses : goal.slice_bounds-put_numbers_line-end-in-Ok-Accesses
slice_bounds-put_numbers_line-end-in-Ok-Accesses c = sym (length-take-le _ _ (reading_within _ _ (rw c.in-Ok-Accesses.field-0-is at c.in-Ok-Accesses.is) c.read_trace.ensures))

pub returns-in-Ok-Accesses : goal.returns-in-Ok-Accesses
returns-in-Ok-Accesses c =
    let left = c.read_trace.ensures in
    let text = put_then _ _ _ _ _ c.put_count-head.ensures _ _ _ c.put_numbers_line.ensures in
    record { put = put_is _ _ _ _ _ _ text (reading_said _ (rw c.in-Ok-Accesses.field-0-is at c.in-Ok-Accesses.is) left); accesses_after = ap (λ (a : ReadLeft). a.room) left }

pub returns-in-Ok-Damaged : goal.returns-in-Ok-Damaged
returns-in-Ok-Damaged c =
    let left = c.read_trace.ensures in
    record { put = put_is _ _ _ _ _ _ c.put_damaged.ensures (reading_said _ (rw c.in-Ok-Damaged.field-0-is at c.in-Ok-Damaged.is) left); accesses_after = ap (λ (a : ReadLeft). a.room) left }

pub returns-in-Err : goal.returns-in-Err
returns-in-Err c =
    let left = c.read_trace.ensures in
    let line = ap refused_line c.number.ensures ∙ reading_said _ c.in-Err.is left in
    record { put = put_is _ _ _ _ _ _ c.put_refused.ensures line; accesses_after = ap (λ (a : ReadLeft). a.room) left }
