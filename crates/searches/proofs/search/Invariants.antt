-- `search` searches twice, the second search nested in the first. The outer loop goes on to the first state that has the least units: its invariant is that
-- those before it have more. From there the inner loop goes on behind it: from place `j` on it comes to the same one alike. The first one alike is the partner, and
-- leaves both loops.
use mathlib.Core.Path.{◌≡◌}
use Prim.Native.Nat.{◌-◌}
use Rattle.rules.specs.Table.{state_at}
use Rattle.words.specs.Tables.{table_of}
use Rattle.searches.specs.Least.{Lowest}
use Rattle.searches.specs.Searches.{is_alike, first_from, first_alike}
use Rattle.searches.proofs.search.Given as goal

abbrev pub invariant-loop-j : goal.invariant-loop-j
invariant-loop-j l =
    first_from (λ q. is_alike l.s (state_at (table_of l.words) q)) (l.n - l.j) l.j ≡ first_alike l.n (table_of l.words) l.s l.fewest

abbrev pub invariant-search : goal.invariant-search
invariant-search l = Lowest (table_of l.words) l.n l.units.0 l.fewest

abbrev pub decreases-search : goal.decreases-search
decreases-search l = l.n - l.fewest
