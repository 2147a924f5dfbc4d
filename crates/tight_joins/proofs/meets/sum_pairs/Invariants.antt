-- `sum_pairs` goes pair by pair. The invariant of its loop: the sums have the units of the pairs before pair k.
use Prim.Native.Nat.{◌-◌}
use Rattle.basics.proofs.Sums.{sum_to}
use Rattle.tight_rows.specs.Room.{words_of, Leaves}
use Rattle.tight_rows.specs.Rows.{raised}
use Rattle.tight_joins.specs.Meeting.{comes_by}
use Rattle.tight_joins.proofs.meets.sum_pairs.Given as goal

abbrev pub invariant-loop-k : goal.invariant-loop-k
invariant-loop-k l = Leaves (raised l.plan (l.p.pairs - l.plan) (λ D. sum_to l.k (comes_by l.p (words_of l.initial.work) D))) l.initial.work l.work
