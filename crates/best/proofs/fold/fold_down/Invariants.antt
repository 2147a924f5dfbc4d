-- `fold_down` folds while there are too many states. The invariant of its loop: folding what is there down to the limit comes to the same as
-- folding the table that it began with. A fold leaves fewer states, so that the loop ends.
use mathlib.Core.Path.{◌≡◌}
use mathlib.Core.Bool.{true}
use Prim.Native.Nat.{◌≤◌}
use lib.ListN.{length, take}
use Rattle.best.specs.Tables.{rising, work_of, folded}
use Rattle.words.specs.BestTables.{table_of}
use Rattle.best.proofs.fold.fold_down.Given as goal

abbrev pub invariant-loop-words : goal.invariant-loop-words
invariant-loop-words l =
    (l.left ≤ l.n)
    × (length l.words ≡ length l.initial.words)
    × (rising (take l.left (table_of l.words)) ≡ true)
    × (folded l.limit (work_of (take l.n (table_of l.initial.words))) ≡ folded l.limit (work_of (take l.left (table_of l.words))))

abbrev pub decreases-loop-words : goal.decreases-loop-words
decreases-loop-words l = l.left
