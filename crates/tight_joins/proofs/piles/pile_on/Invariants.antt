-- `pile_on` goes cell by cell. The invariant of its loop: the words before place j are heights, the others are as they were, and `left` is the next height.
use mathlib.Core.Path.{◌≡◌}
use Prim.Native.Nat.{◌+◌}
use Rattle.tight_rows.specs.Room.{words_of}
use Rattle.tight_joins.specs.Piling.{height_at, piled}
use Rattle.tight_rows.proofs.Writing.{Written}
use Rattle.tight_joins.proofs.piles.pile_on.Given as goal

abbrev pub invariant-loop-j : goal.invariant-loop-j
invariant-loop-j l = (l.left ≡ height_at l.at l.width (words_of l.initial.work) (l.j + l.by)) × Written l.at (piled l.by l.width l.at) l.j l.initial.work l.work
