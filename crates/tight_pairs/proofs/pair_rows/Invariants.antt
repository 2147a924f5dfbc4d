-- `pair_rows` goes row by row. The invariant of its loop: the rows before this one are paired.
use Rattle.tight_rows.specs.Room.{words_of}
use Rattle.tight_pairs.specs.Matching.{rows_with, shared_by, PairedTo}
use Rattle.tight_pairs.proofs.pair_rows.Given as goal

abbrev pub invariant-loop-i : goal.invariant-loop-i
invariant-loop-i l = PairedTo l.p (rows_with (shared_by l.p (words_of l.initial.work)) l.blocks l.p.right.rows l.i) l.pairs l.n l.initial.work l.work
