-- `pair_row` goes row by row. The invariant of its loop: row i is paired with those before this one.
use Rattle.tight_rows.specs.Room.{words_of}
use Rattle.tight_pairs.specs.Matching.{row_with, shared_by, PairedTo}
use Rattle.tight_pairs.proofs.pair_row.Given as goal

abbrev pub invariant-loop-j : goal.invariant-loop-j
invariant-loop-j l = PairedTo l.p (row_with (shared_by l.p (words_of l.initial.work)) l.blocks l.i l.j) l.pairs l.n l.initial.work l.work
