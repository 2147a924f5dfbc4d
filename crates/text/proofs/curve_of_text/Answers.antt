-- `curve_of_text` meets its contract: the curve is the text that is wanted.
use Rattle.printed.specs.Rooms.{after_text}
use Rattle.text.proofs.curve_of_text.Goals as goal

pub returns : goal.returns
unfolding after_text
returns c = c.write_text.ensures
