-- `nearest_holder` goes through the places behind the first. The invariant of its loop: from the one found and place `j` on it comes to the same place.
use mathlib.Core.Path.{◌≡◌}
use Prim.Native.Nat.{◌-◌}
use Rattle.rules.specs.Table.{state_at}
use Rattle.rules.specs.Fold.{apart}
use Rattle.folding.specs.Ends.{none_nearer}
use Rattle.words.specs.Tables.{table_of}
use Rattle.searches.specs.Searches.{best_until, is_nearer, nearest_holder}
use Rattle.searches.proofs.partner.nearest_holder.Given as goal

abbrev pub invariant-loop-j : goal.invariant-loop-j
invariant-loop-j l =
    (best_until (is_nearer l.n (table_of l.words) l.s l.at) (λ k. none_nearer (apart l.s (state_at (table_of l.words) k))) (l.n - l.j) l.found l.j ≡ nearest_holder l.n (table_of l.words) l.s l.at l.first)
    × (l.near ≡ apart l.s (state_at (table_of l.words) l.found))
