-- `row_sum` adds word by word. The invariant of its loop: the sum is that of the words before place j.
use mathlib.Core.Path.{◌≡◌}
use Rattle.tight_rows.specs.Room.{words_of}
use Rattle.tight_rows.specs.Rows.{row_sum}
use Rattle.tight.proofs.rows.row_sum.Given as goal

abbrev pub invariant-loop-j : goal.invariant-loop-j
invariant-loop-j l = l.sum ≡ row_sum l.from l.select l.j (words_of l.work)
