-- `move_lost` goes through the 16 places. The invariant of its loop: the row has come to where it goes by the places passed.
use Rattle.tight.proofs.Moving.{CameTo}
use Rattle.tight.proofs.moves.move_lost.Given as goal

abbrev pub invariant-loop-at : goal.invariant-loop-at
invariant-loop-at l = CameTo l.r l.mask l.risk l.x l.live l.at l.initial.work l.work
