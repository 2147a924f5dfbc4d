-- `pair_up` takes the walk's pairs one by one into the scratch. The invariant of its loop: the slots are as they were, and what the
-- scratch holds is, with the pairs that are still to come, the whole join. The measure is how many states are left.
use Rattle.rules.specs.Best.{listing}
use Rattle.words.specs.BestTables.{table_of}
use Rattle.tables.proofs.Pairing.{best_in_words, states_left, states_at, Underway}
use Rattle.best.specs.Pairing.{front_of}
use Rattle.best.proofs.join.pair_up.Given as goal

abbrev pub invariant-loop-a : goal.invariant-loop-a
invariant-loop-a l = Underway best_in_words l.left l.m l.right l.k l.initial.work l.work l.n (front_of l.a) (front_of l.b)

abbrev pub decreases-loop-a : goal.decreases-loop-a
decreases-loop-a l = states_left listing (front_of l.a) (front_of l.b) (states_at table_of l.left l.m l.initial.work) (states_at table_of l.right l.k l.initial.work)
