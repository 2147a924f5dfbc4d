-- `copy_block` meets its contract. The invariant of its loop: what stands before the next place, with the accesses that are left, is what is to stand there.
use mathlib.Core.Path.{◌≡◌}
use mathlib.Core.List.{◌++◌}
use Prim.Native.Nat.{◌+◌, ◌-◌, ◌*◌, ◌≤◌}
use lib.ListN.{length, take, drop}
use Rattle.trace_blocks.specs.Blocks.{fours, accesses_in}
use Rattle.recorder.proofs.copying.copy_block.Given as goal

abbrev pub invariant-loop-i : goal.invariant-loop-i
invariant-loop-i l =
    (l.count ≤ 125) × (take (l.at + l.i) l.accesses ++ fours (l.count - l.i) (drop (6 + l.i * 4) l.block) ≡ take l.at l.initial.accesses ++ accesses_in l.block)
