-- `nearest_of_all` searches place by place. The invariant of its loop: from the best so far and place `j` on it comes to the same place.
use mathlib.Core.Path.{◌≡◌}
use Prim.Native.Nat.{◌-◌}
use Rattle.rules.specs.Table.{state_at}
use Rattle.rules.specs.Fold.{sharing, apart}
use Rattle.words.specs.Tables.{table_of}
use Rattle.searches.specs.Searches.{best_until, is_closer, unbeaten, nearest_of_all}
use Rattle.searches.proofs.partner.nearest_of_all.Given as goal

abbrev pub invariant-loop-j : goal.invariant-loop-j
invariant-loop-j l =
    (best_until (is_closer l.n (table_of l.words) l.s l.at) (λ k. unbeaten l.bound (sharing l.s (state_at (table_of l.words) k)) (apart l.s (state_at (table_of l.words) k))) (l.n - l.j) l.partner l.j
    ≡ nearest_of_all l.n (table_of l.words) l.s l.at l.bound)
    × (l.most ≡ sharing l.s (state_at (table_of l.words) l.partner))
    × (l.near ≡ apart l.s (state_at (table_of l.words) l.partner))
