-- `copy_best` goes through the row. The invariant of its loop: what is held, with the states that are left one after the other, is the whole copy.
use Rattle.std.proofs.Common.{◌≡◌, drop}
use Rattle.rows.specs.Rows.{best_states, one_more, more_of, copied}
use Rattle.rows.proofs.best_row.copy_best.Given as goal

abbrev pub invariant-loop-s : goal.invariant-loop-s
invariant-loop-s l = more_of (one_more best_states) l.held (drop l.s-index l.row) ≡ copied best_states l.row
