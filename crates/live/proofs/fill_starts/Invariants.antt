-- `fill_starts` meets its contract. The invariant of its loop: the numbers of the nodes from node v on stand where they belong, with what was behind them, and the
-- run of the node before node v ends at `to`.
use Rattle.std.proofs.Common.{◌≡◌, ◌≤◌, length, drop}
use Rattle.rules.specs.Input.{offset}
use Rattle.live.specs.Starts.{graph_of}
use Rattle.live.proofs.Lives.{Held}
use Rattle.live.proofs.fill_starts.Given as goal

abbrev pub invariant-loop-v : goal.invariant-loop-v
invariant-loop-v l =
    (length l.starts ≡ length l.initial.starts) × (l.to ≤ length l.accesses) × (l.to ≡ offset l.runs l.v) × Held (graph_of l.tracked l.runs l.accesses l.edges) (drop (length l.runs) l.initial.starts) l.v l.starts
