-- `size_of` counts the bits of the 16 places.
use Rattle.tables.proofs.Masks.{size_ones}
use Rattle.tables.proofs.size_of.Goals as goal

pub returns : goal.returns
returns c = size_ones c.args.mask
