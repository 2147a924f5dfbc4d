-- `pair` keeps equal contents exact, and opens others as a fold does.
use mathlib.Core.Path.{sym, ◌∙◌}
use Rattle.best.proofs.meeting.pair.Goals as goal

pub returns-then-same_contents : goal.returns-then-same_contents
returns-then-same_contents c =
    rw (← c.fewer_hits.ensures, ← c.fewer_misses.ensures, sym c.same_contents.ensures ∙ c.if-same_contents.true)

pub returns : goal.returns
returns c = rw (sym c.same_contents.ensures ∙ c.if-same_contents.false) c.meet.ensures
