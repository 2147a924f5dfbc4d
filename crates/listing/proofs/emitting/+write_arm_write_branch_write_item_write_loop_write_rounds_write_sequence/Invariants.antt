-- The measure of the cycle is four for each token that is left, and one, two or three more for an item, a sequence, and an arm or the rounds of a
-- loop. The invariants of the two loops: so many rounds are written; what is left of a sequence gives the whole (`Going`).
use Rattle.std.proofs.Common.{◌≡◌, ◌+◌, ◌-◌, ◌*◌, length}
use Rattle.listing_form.specs.Reading.{listing_in}
use Rattle.listing.specs.Expansion.{times}
use Rattle.listing.specs.Writing.{rooms_of, written, sequence_at}
use Rattle.listing.proofs.Writes.{Going}
use Rattle.listing.proofs.emitting.+write_arm_write_branch_write_item_write_loop_write_rounds_write_sequence.Given as goal

abbrev pub decreases-write_arm : goal.decreases-write_arm
decreases-write_arm l = (length l.tokens.now - l.at) * 4 + 3

abbrev pub decreases-write_branch : goal.decreases-write_branch
decreases-write_branch l = (length l.tokens.now - l.at) * 4

abbrev pub decreases-write_item : goal.decreases-write_item
decreases-write_item l = (length l.tokens.now - l.at) * 4 + 1

abbrev pub decreases-write_loop : goal.decreases-write_loop
decreases-write_loop l = (length l.tokens.now - l.at) * 4

abbrev pub decreases-write_rounds : goal.decreases-write_rounds
decreases-write_rounds l = (length l.tokens.now - l.at) * 4 + 3

abbrev pub decreases-write_sequence : goal.decreases-write_sequence
decreases-write_sequence l = (length l.tokens.now - l.at) * 4 + 2

abbrev pub invariant-write_rounds-loop-round : goal.invariant-write_rounds-loop-round
invariant-write_rounds-loop-round l =
    rooms_of l.s l.runs l.accesses l.edges ≡ times l.round (written (listing_in (sequence_at l.tokens l.at))) (rooms_of l.fn.from l.fn.runs l.fn.accesses l.fn.edges)

abbrev pub invariant-write_sequence-loop-so_far : goal.invariant-write_sequence-loop-so_far
invariant-write_sequence-loop-so_far l =
    Going l.tokens l.at (rooms_of l.fn.from l.fn.runs l.fn.accesses l.fn.edges) l.p.at (rooms_of l.p.standing l.runs l.accesses l.edges)

abbrev pub decreases-write_sequence-loop-so_far : goal.decreases-write_sequence-loop-so_far
decreases-write_sequence-loop-so_far l = length l.tokens - l.p.at
