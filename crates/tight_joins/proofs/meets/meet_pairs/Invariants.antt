-- `meet_pairs` goes pair by pair. The invariant of its loop: the pairs before pair k have come to their rows.
use Rattle.tight_joins.specs.Meeting.{MetTo}
use Rattle.tight_joins.proofs.meets.meet_pairs.Given as goal

abbrev pub invariant-loop-k : goal.invariant-loop-k
invariant-loop-k l = MetTo l.m l.k l.initial.work l.work
