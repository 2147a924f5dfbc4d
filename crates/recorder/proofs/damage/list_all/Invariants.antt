-- `list_all` meets its contract. The invariant of its loop: the places listed so far, with those of the blocks that are left, are all damaged places.
use mathlib.Core.Path.{◌≡◌}
use mathlib.Core.List.{◌++◌}
use Prim.Native.Nat.{◌-◌, ◌/◌, ◌≤◌}
use lib.ListN.{length, take, drop}
use Rattle.recorder.specs.Traces.{blocks_of, gathered, damage_at, damaged_places}
use Rattle.recorder.proofs.damage.list_all.Given as goal

abbrev pub invariant-loop-k : goal.invariant-loop-k
invariant-loop-k l =
    (l.count ≤ l.k) × (take l.count l.places ++ gathered damage_at l.k (drop l.k (blocks_of l.trace)) ≡ damaged_places l.trace)
