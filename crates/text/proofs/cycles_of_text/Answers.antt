-- `cycles_of_text` meets its contract: the curves in cycles are the text that is wanted.
use Rattle.printed.specs.Rooms.{after_cycles_of_text}
use Rattle.text.proofs.cycles_of_text.Goals as goal

pub returns : goal.returns
unfolding after_cycles_of_text
returns c = c.write_text.ensures
