-- `number_masks` goes mask by mask. The invariant of its loop: the masks before this one have their numbers and rows.
use Rattle.tight_rows.specs.Numbers.{NumberedTo}
use Rattle.tight_rows.proofs.opens.number_masks.Given as goal

abbrev pub invariant-loop-mask : goal.invariant-loop-mask
invariant-loop-mask l = NumberedTo l.o l.mask l.row l.initial.work l.work
