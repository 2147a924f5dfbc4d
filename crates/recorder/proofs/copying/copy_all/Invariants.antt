-- `copy_all` meets its contract. The invariant of its loop: the accesses copied so far, with those of the blocks that are left, are all that the trace
-- says, and none of the blocks that are left is damaged.
use mathlib.Core.Path.{◌≡◌}
use mathlib.Core.List.{[], ◌++◌}
use Prim.Native.Nat.{◌-◌, ◌*◌, ◌/◌, ◌≤◌}
use lib.ListN.{length, take, drop}
use Rattle.recorder.specs.Traces.{blocks_of, gathered, said_at, damage_at, said}
use Rattle.recorder.proofs.copying.copy_all.Given as goal

abbrev pub invariant-loop-k : goal.invariant-loop-k
invariant-loop-k l =
    (l.count ≤ l.k * 125)
    × (gathered damage_at l.k (drop l.k (blocks_of l.trace)) ≡ []) × (take l.count l.accesses ++ gathered said_at l.k (drop l.k (blocks_of l.trace)) ≡ said l.trace)
