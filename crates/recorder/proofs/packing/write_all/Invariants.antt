-- `write_all` meets its contract. The invariant of its loop: the blocks so far, with those of the accesses that are left, are the whole trace.
use mathlib.Core.Path.{◌≡◌}
use mathlib.Core.List.{◌++◌}
use Prim.Native.Nat.{◌-◌, ◌*◌, ◌≤◌}
use lib.ListN.{length, take, drop}
use Rattle.recorder.specs.Written.{blocks_for, trace_from, trace_of}
use Rattle.recorder.proofs.packing.write_all.Given as goal

abbrev pub invariant-loop-k : goal.invariant-loop-k
invariant-loop-k l =
    take (l.k * 512) l.trace ++ trace_from (blocks_for (length l.accesses) - l.k) l.k (drop (l.k * 125) l.accesses) ≡ trace_of l.accesses
