-- `sum_live` adds up contents after contents. The invariant of its loop: the units of the first k contents stand in the plan.
use Rattle.tight_tables.proofs.Copying.{SumsTo}
use Rattle.tight_tables.proofs.copy.sum_live.Given as goal

abbrev pub invariant-loop-k : goal.invariant-loop-k
invariant-loop-k l = SumsTo l.o l.from l.live l.k l.initial.work l.work
