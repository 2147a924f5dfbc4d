-- `cycles_of_numbers` meets its contract: the curves in cycles are the text that is wanted.
use Rattle.printed.specs.Rooms.{after_cycles_of_numbers}
use Rattle.text.proofs.cycles_of_numbers.Goals as goal

pub returns : goal.returns
unfolding after_cycles_of_numbers
returns c = c.write_numbers.ensures
