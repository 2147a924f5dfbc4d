-- `curve_of_chosen_text` meets its contract: the curve is the text that is wanted, of numbers that begin with a choice.
use Rattle.printed.specs.Rooms.{after_chosen_text}
use Rattle.text.proofs.curve_of_chosen_text.Goals as goal

pub returns : goal.returns
unfolding after_chosen_text
returns c = c.write_text.ensures
