-- `damaged_of_trace` meets its contract: nothing is written where the output is too short, and otherwise the text is at its front.
use mathlib.Core.Path.{sym, ◌∙◌}
use Rattle.recorder.specs.Calls.{trace_listed}
use Rattle.traces.specs.Traces.{damaged_told}
use Rattle.traces.proofs.Saying.{listing_long, told_none, told_written}
use Rattle.traces.proofs.damaged_of_trace.Goals as goal

pub returns-then-not-has_bytes : goal.returns-then-not-has_bytes
unfolding damaged_told
returns-then-not-has_bytes c = told_none _ _ _ _ _ (sym c.has_bytes.ensures ∙ c.if-not-has_bytes.true)

pub returns : goal.returns
unfolding damaged_told
returns c =
    let a = c.args in
    let left = trace_listed a.trace.now a.places.now in
    told_written _ _ _ _ _ (sym c.has_bytes.ensures ∙ c.if-not-has_bytes.false) _ _ _ c.put_listing-end.ensures.places_after c.put_listing-end.auto.places (listing_long left.answer left.room) c.put_listing-end.ensures.put
