-- `count_rows` goes through the masks. The invariant of its loop: so many of those passed have units.
use Rattle.std.proofs.Common.{◌≡◌}
use Rattle.tight_rows.specs.Room.{words_of}
use Rattle.tight_rows.specs.Numbers.{sum_in, rank_of}
use Rattle.tight_rows.proofs.opens.count_rows.Given as goal

abbrev pub invariant-loop-mask : goal.invariant-loop-mask
invariant-loop-mask l = l.rows ≡ rank_of (sum_in l.o (words_of l.work)) l.mask
