-- `pair_all` goes down level by level. The invariant of its loop: the rows that share more blocks are paired.
use Rattle.tight_rows.specs.Room.{words_of}
use Rattle.tight_pairs.specs.Matching.{turns_to, shared_by, PairedTo}
use Rattle.tight_pairs.proofs.pair_all.Given as goal

abbrev pub invariant-loop-k : goal.invariant-loop-k
invariant-loop-k l = PairedTo l.p (turns_to (shared_by l.p (words_of l.initial.work)) l.p.left.rows l.p.right.rows l.k) 0 l.n l.initial.work l.work
