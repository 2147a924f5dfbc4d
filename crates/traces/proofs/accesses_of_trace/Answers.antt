-- `accesses_of_trace` meets its contract: nothing is written where the output is too short, and otherwise the text is at its front.
use mathlib.Core.Path.{sym, ◌∙◌}
use Rattle.recorder.specs.Calls.{trace_read}
use Rattle.traces.specs.Traces.{accesses_told}
use Rattle.traces.proofs.Saying.{reading_long, told_none, told_written}
use Rattle.traces.proofs.accesses_of_trace.Goals as goal

pub returns-then-not-has_bytes : goal.returns-then-not-has_bytes
unfolding accesses_told
returns-then-not-has_bytes c = told_none _ _ _ _ _ (sym c.has_bytes.ensures ∙ c.if-not-has_bytes.true)

pub returns : goal.returns
unfolding accesses_told
returns c =
    let a = c.args in
    let left = trace_read a.trace.now a.accesses.now in
    told_written _ _ _ _ _ (sym c.has_bytes.ensures ∙ c.if-not-has_bytes.false) _ _ _ c.put_reading-end.ensures.accesses_after c.put_reading-end.auto.accesses (reading_long left.answer left.room) c.put_reading-end.ensures.put
