-- `meet` has the smaller of each count.
use Rattle.best.proofs.meeting.meet.Goals as goal

pub returns : goal.returns
returns c = rw (← c.fewer_hits.ensures, ← c.fewer_misses.ensures)
