-- `work_graphs` meets its contract. The invariant of its loop: the rows of the graphs so far stand at the front of the room and are in the report, and the others are
-- behind the place that is reached.
use mathlib.Core.Path.{◌≡◌}
use Prim.Native.Nat.{◌-◌, ◌≤◌}
use lib.ListN.{length, drop}
use Rattle.night_rows.specs.Graphs.{cut}
use Rattle.nightly.proofs.Working.{Halfway}
use Rattle.nightly.proofs.graphs.work_graphs.Given as goal

abbrev pub invariant-loop-at : goal.invariant-loop-at
invariant-loop-at l =
    (l.at ≤ length l.numbers) × (length l.rows ≡ length l.initial.rows) × (length l.res ≡ length l.initial.res) × (length l.work ≡ length l.initial.work)
    × Halfway l.allowance l.numbers l.count l.report l.rows (cut (256 - l.count) (drop l.at l.numbers))

abbrev pub decreases-loop-at : goal.decreases-loop-at
decreases-loop-at l = length l.numbers - l.at
