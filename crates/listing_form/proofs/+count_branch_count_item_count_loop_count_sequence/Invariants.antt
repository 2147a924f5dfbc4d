-- The measure of the cycle is three for each token that is left, and one, two or three more for an item, a sequence, and a branch or a loop behind
-- its first token. The invariant of the one loop: what was read so far and the rest behind it give the whole (`Under`).
use Rattle.std.proofs.Common.{◌+◌, ◌-◌, ◌*◌, length}
use Rattle.listing_form.proofs.Counts.{Under}
use Rattle.listing_form.proofs.+count_branch_count_item_count_loop_count_sequence.Given as goal

abbrev pub decreases-count_branch : goal.decreases-count_branch
decreases-count_branch l = (length l.tokens.now - l.at) * 3 + 3

abbrev pub decreases-count_item : goal.decreases-count_item
decreases-count_item l = (length l.tokens.now - l.at) * 3 + 1

abbrev pub decreases-count_loop : goal.decreases-count_loop
decreases-count_loop l = (length l.tokens.now - l.at) * 3 + 3

abbrev pub decreases-count_sequence : goal.decreases-count_sequence
decreases-count_sequence l = (length l.tokens.now - l.at) * 3 + 2

abbrev pub invariant-count_sequence-loop-so_far : goal.invariant-count_sequence-loop-so_far
invariant-count_sequence-loop-so_far l = Under l.tokens l.at l.depth l.so_far

abbrev pub decreases-count_sequence-loop-so_far : goal.decreases-count_sequence-loop-so_far
decreases-count_sequence-loop-so_far l = length l.tokens - l.so_far.at
