-- `weigh` meets its contract. The invariant of its loop: the sum so far and the weight of the bytes that are left come to that of all.
use mathlib.Core.Path.{◌≡◌}
use Prim.Native.Nat.{◌+◌, ◌*◌, ◌≤◌}
use lib.ListN.{drop}
use Rattle.trace_blocks.specs.Blocks.{weighed}
use Rattle.trace_blocks.proofs.fields.weigh.Given as goal

abbrev pub invariant-loop-i : goal.invariant-loop-i
invariant-loop-i l = (l.sum ≤ l.i * 130050) × (l.sum + weighed (l.i + 1) (drop l.i l.bytes) ≡ weighed 1 l.bytes)
