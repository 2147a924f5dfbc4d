-- `count_graphs` meets its contract. The invariant of its loop: what is counted in the end is what is counted, with the graphs behind the place that is reached.
use mathlib.Core.Path.{◌≡◌}
use Prim.Native.Nat.{◌+◌, ◌-◌, ◌≤◌}
use lib.ListN.{length}
use Rattle.night_rows.specs.Graphs.{count_of}
use Rattle.night_rows.proofs.Cutting.{counting}
use Rattle.night_rows.proofs.count_graphs.Given as goal

abbrev pub invariant-loop-at : goal.invariant-loop-at
invariant-loop-at l = (l.count ≤ 256) × (counting l.count l.numbers l.at ≡ count_of l.numbers)

abbrev pub decreases-loop-at : goal.decreases-loop-at
decreases-loop-at l = length l.numbers + 1 - l.at
