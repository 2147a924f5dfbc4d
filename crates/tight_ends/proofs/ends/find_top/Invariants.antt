-- `find_top` goes down column by column. The invariant of its loop: what is beyond may leave.
use Rattle.tight_rows.specs.Room.{words_of}
use Rattle.tight_ends.specs.Stage.{groups_of}
use Rattle.tight_ends.specs.Settling.{both}
use Rattle.tight_ends.proofs.EndsFound.{Topping}
use Rattle.tight_ends.proofs.ends.find_top.Given as goal

abbrev pub invariant-loop-j : goal.invariant-loop-j
invariant-loop-j l = Topping (both (groups_of l.cells l.stage (words_of l.work))) l.width l.j l.gone
