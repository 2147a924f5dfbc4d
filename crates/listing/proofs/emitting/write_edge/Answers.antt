-- `write_edge` meets its contract, as it stands.
use mathlib.Core.Path.{refl}
use native.Mathlib.Omega.{arith}
use lib.ListN.{length-set}
use Rattle.listing.specs.Writing.{edge_written}
use Rattle.listing.proofs.emitting.write_edge.Goals as goal

pub bounds-edges-place-2 : goal.bounds-edges-place-2
bounds-edges-place-2 c = simp length-set (omega arith)

pub returns : goal.returns
unfolding edge_written
returns c = record { rooms = λ ns bs. refl }
