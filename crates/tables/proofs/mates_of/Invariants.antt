-- `mates_of` knows all of one set, and else goes from the last tracked block to the first. The invariant of its loop: the mask is that of the blocks passed.
use mathlib.Core.Path.{◌≡◌}
use Prim.Native.Nat.{◌<◌}
use Rattle.tables.proofs.Masks.{set_from}
use Rattle.tables.proofs.mates_of.Given as goal

abbrev pub invariant-loop-i : goal.invariant-loop-i
invariant-loop-i l = (l.mask < 65536) × (l.mask ≡ set_from l.sets l.tracked l.set l.i)
