-- `without_place` turns the bit over, which is set.
use Prim.Native.Nat.{◌%◌}
use native.Mathlib.Omega.{arith}
use Rattle.rules.specs.Contents.{without}
use Rattle.tables.proofs.Masks.{one_shifted}
use Rattle.tables.proofs.without_place.Goals as goal

pub returns : goal.returns
unfolding without
returns c = rw (one_shifted (c.args.at % 64) (omega arith))
