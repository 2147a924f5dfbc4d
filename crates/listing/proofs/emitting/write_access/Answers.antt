-- `write_access` meets its contract, as it stands.
use mathlib.Core.Path.{refl}
use Rattle.listing.specs.Writing.{access_written}
use Rattle.listing.proofs.emitting.write_access.Goals as goal

pub returns : goal.returns
unfolding access_written
returns c = record { rooms = λ es. refl }
