-- `open_node` meets its contract, as it stands.
use mathlib.Core.Path.{refl}
use Rattle.listing.specs.Writing.{node_opened}
use Rattle.listing.proofs.emitting.open_node.Goals as goal

pub returns : goal.returns
unfolding node_opened
returns c = record { rooms = λ ns bs es. refl }
