-- `put_accesses` meets its contract. The invariant of its loop: the bytes so far, with those of the accesses that are left, are all that is to stand there.
use mathlib.Core.Path.{◌≡◌}
use mathlib.Core.List.{◌++◌}
use Prim.Native.Nat.{◌+◌, ◌*◌}
use lib.ListN.{take, drop}
use Rattle.trace_blocks.specs.Written.{fours_bytes}
use Rattle.trace_blocks.proofs.put_accesses.Given as goal

abbrev pub invariant-loop-i : goal.invariant-loop-i
invariant-loop-i l = take (6 + l.i * 4) l.block ++ fours_bytes (drop l.i l.accesses) ≡ take 6 l.initial.block ++ fours_bytes l.accesses
