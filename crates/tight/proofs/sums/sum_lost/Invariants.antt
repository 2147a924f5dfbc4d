-- `sum_lost` goes through the 16 places. The invariant of its loop: what is lost at the places passed is added.
use Rattle.tight.proofs.Summing.{LostTo}
use Rattle.tight.proofs.sums.sum_lost.Given as goal

abbrev pub invariant-loop-at : goal.invariant-loop-at
invariant-loop-at l = LostTo l.plan l.mask l.risk l.x l.live l.units l.at l.initial.work l.work
