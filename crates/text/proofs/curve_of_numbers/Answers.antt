-- `curve_of_numbers` meets its contract: the curve is the text that is wanted.
use Rattle.printed.specs.Rooms.{after_numbers}
use Rattle.text.proofs.curve_of_numbers.Goals as goal

pub returns : goal.returns
unfolding after_numbers
returns c = c.write_numbers.ensures
