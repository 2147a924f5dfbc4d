-- `pair_rows` adds one row's pair after the other. The invariant of its loop: what the scratch holds is, with the pairs still to come, the whole join.
use mathlib.Core.Path.{◌≡◌}
use Rattle.std.specs.Slice.Iter.{chunks_exact_rest, chunks_exact_size}
use Rattle.estimate.proofs.HandedIn.{Rowing}
use Rattle.estimate.proofs.handed.pair_rows.Given as goal

abbrev pub invariant-loop-row : goal.invariant-loop-row
invariant-loop-row l =
    (chunks_exact_size l.row-iterator ≡ 3) × Rowing l.left l.m l.right l.k l.rows l.initial.work l.work l.n (chunks_exact_rest l.row-iterator)
