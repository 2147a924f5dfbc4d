-- `first_damaged` meets its contract. The invariant of its loop: the blocks that are left have all the damaged places.
use mathlib.Core.Path.{◌≡◌}
use Prim.Native.Nat.{◌-◌, ◌/◌, ◌≤◌}
use lib.ListN.{length, drop}
use Rattle.recorder.specs.Traces.{blocks_of, gathered, damage_at, damaged_places}
use Rattle.recorder.proofs.blocks.first_damaged.Given as goal

abbrev pub invariant-loop-k : goal.invariant-loop-k
invariant-loop-k l = gathered damage_at l.k (drop l.k (blocks_of l.trace)) ≡ damaged_places l.trace
