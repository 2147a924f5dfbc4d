-- `add_live` adds row after row. The invariant of its loop: the first k contents have brought their units.
use Rattle.tight_tables.specs.Copying.{Brought}
use Rattle.tight_tables.proofs.copy.add_live.Given as goal

abbrev pub invariant-loop-k : goal.invariant-loop-k
invariant-loop-k l = Brought l.o l.from l.live l.k l.initial.work l.work
