-- `sum_of` adds word by word, as far as there are words. The invariant of its loop: the sum is that of the words before place j.
use Rattle.std.proofs.Common.{◌≡◌, ◌+◌, ◌%◌, ◌^◌}
use Rattle.basics.proofs.Sums.{sum_to}
use Rattle.tight_rows.specs.Room.{words_of}
use Rattle.tight_rows.proofs.rows.sum_of.Given as goal

abbrev pub invariant-loop-j : goal.invariant-loop-j
invariant-loop-j l = l.sum ≡ sum_to l.j (λ i. words_of l.work (l.from + i)) % 2 ^ 64
