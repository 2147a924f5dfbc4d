-- `fold_down` folds while there are too many states. The invariant of its loop: folding what is there down to the limit comes to the same as
-- folding the table that it began with. A fold leaves fewer states, so that the loop ends.
use mathlib.Core.Path.{◌≡◌}
use mathlib.Core.Bool.{true}
use Prim.Native.Nat.{◌≤◌}
use lib.ListN.{length, take}
use Rattle.rules.specs.Table.{rising}
use Rattle.rules.specs.Fold.{folded}
use Rattle.words.specs.Tables.{table_of}
use Rattle.tables.proofs.Folding.{work_of}
use Rattle.estimate.proofs.fold.fold_down.Given as goal

abbrev pub invariant-loop-words : goal.invariant-loop-words
invariant-loop-words l =
    (l.tally.states ≤ l.n)
    × (length l.words ≡ length l.initial.words)
    × (rising (take l.tally.states (table_of l.words)) ≡ true)
    × (folded l.limit (work_of l.n l.initial.tally.aside.0 (table_of l.initial.words)) ≡ folded l.limit (work_of l.tally.states l.tally.aside.0 (table_of l.words)))

abbrev pub decreases-loop-words : goal.decreases-loop-words
decreases-loop-words l = l.tally.states
