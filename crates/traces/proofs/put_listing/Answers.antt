-- `put_listing` meets its contract: what it puts is the text of what listing answers, in each of its cases.
use mathlib.Core.Path.{sym, ap, ◌∙◌}
use lib.Seq.{length-take-le}
use Rattle.recorder.specs.Calls.{CountLeft}
use Rattle.writing.specs.Writing.{refused_line}
use Rattle.writing.proofs.Putting.{put_is, put_then}
use Rattle.traces.proofs.Saying.{listing_within, listing_said}
use Rattle.traces.proofs.put_listing.Goals as goal

-- as many numbers as are answered stand in the room
pub slice_bounds-put_places-end : goal.slice_bounds-put_places-end
slice_bounds-put_places-end c = listing_within _ _ c.in-Ok.is c.list_damaged.ensures

pub slice_bounds-put_places-end-in-Ok : goal.slice_bounds-put_places-end-in-Ok
slice_bounds-put_places-end-in-Ok c = sym (length-take-le _ _ (listing_within _ _ c.in-Ok.is c.list_damaged.ensures))

pub returns-in-Ok : goal.returns-in-Ok
returns-in-Ok c =
    let left = c.list_damaged.ensures in
    let text = put_then _ _ _ _ _ c.put_count-head.ensures _ _ _ c.put_places.ensures in
    record { put = put_is _ _ _ _ _ _ text (listing_said _ c.in-Ok.is left); places_after = ap (λ (a : CountLeft). a.room) left }

pub returns-in-Err : goal.returns-in-Err
returns-in-Err c =
    let left = c.list_damaged.ensures in
    let line = ap refused_line c.number.ensures ∙ listing_said _ c.in-Err.is left in
    record { put = put_is _ _ _ _ _ _ c.put_refused.ensures line; places_after = ap (λ (a : CountLeft). a.room) left }
