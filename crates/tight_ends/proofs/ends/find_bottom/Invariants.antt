-- `find_bottom` goes up column by column. The invariant of its loop: what is below must rise.
use Rattle.tight_rows.specs.Room.{words_of}
use Rattle.tight_ends.specs.Stage.{groups_of}
use Rattle.tight_ends.specs.Settling.{both}
use Rattle.tight_ends.proofs.EndsFound.{Bottoming}
use Rattle.tight_ends.proofs.ends.find_bottom.Given as goal

abbrev pub invariant-loop-bottom : goal.invariant-loop-bottom
invariant-loop-bottom l = Bottoming (both (groups_of l.cells l.stage (words_of l.work))) l.cells l.top l.bottom l.low
