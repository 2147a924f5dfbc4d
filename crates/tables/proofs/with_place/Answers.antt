-- `with_place` sets the bit.
use Prim.Native.Nat.{◌%◌}
use native.Mathlib.Omega.{arith}
use Rattle.rules.specs.Contents.{with}
use Rattle.tables.proofs.Masks.{one_shifted}
use Rattle.tables.proofs.with_place.Goals as goal

pub returns : goal.returns
unfolding with
returns c = rw (one_shifted (c.args.at % 64) (omega arith))
