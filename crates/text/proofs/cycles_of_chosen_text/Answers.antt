-- `cycles_of_chosen_text` meets its contract: the curves in cycles are the text that is wanted, of numbers that begin with a choice.
use Rattle.printed.specs.Rooms.{after_cycles_of_chosen_text}
use Rattle.text.proofs.cycles_of_chosen_text.Goals as goal

pub returns : goal.returns
unfolding after_cycles_of_chosen_text
returns c = c.write_text.ensures
